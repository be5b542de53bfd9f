-- The way over from what one search found to what another looks for.
use Rattle.std.proofs.Common.{◌≡◌, ℕ, Bool, true, List, Some, None, sym, ◌∙◌, ap₂, ⊎_elim}
use Rattle.std.proofs.lemmas.Bool.{both_ways, cases_Bool}
use Rattle.choices.specs.Choice.{Choice, weight_of}
use Rattle.choices.specs.Numbered.{choice_from}
use Rattle.choices.proofs.Numbers.{choice_from_number}
use Rattle.order.specs.Order.{better, BestOf, NoneOf}
use Rattle.order.specs.Laws.{SameChoices, FoundCarriesOver, BestOfMore, NoneOfMore, FoundOfMore}

-- the order looks at no more of the weights than what the two choices weigh
pub better_same : (ws ws' : List ℕ) (cs ds : Choice) → weight_of ws cs ≡ weight_of ws' cs → weight_of ws ds ≡ weight_of ws' ds → better ws cs ds ≡ better ws' cs ds
unfolding better
better_same ws ws' cs ds e f = rw (e, f)

module _ {may may' : Choice → Bool} {ws ws' : List ℕ} (s : SameChoices may may' ws ws') where
  pub best_over : (cs : Choice) → BestOf may ws cs → BestOf may' ws' cs
  best_over cs b =
      record {
        allowed = sym (s.same cs) ∙ b.allowed;
        unbeaten = λ ds a.
            let d : may ds ≡ true = s.same ds ∙ a in
            sym (better_same ws ws' ds cs (s.weighs ds d) (s.weighs cs b.allowed)) ∙ b.unbeaten ds d;
      }

  pub none_over : NoneOf may → NoneOf may'
  none_over h cs = sym (s.same cs) ∙ h cs

pub found_over : FoundCarriesOver
found_over may may' ws ws' None s h = none_over s h
found_over may may' ws ws' (Some b) s h =
    record { choice = h.choice; best = best_over s h.choice h.best; number = h.number; weighs = h.weighs ∙ s.weighs h.choice h.best.allowed }

pub best_of_more : BestOfMore
best_of_more may less ws cs wider b a = record { allowed = a; unbeaten = λ ds d. b.unbeaten ds (wider ds d) }

pub none_of_more : NoneOfMore
none_of_more may less wider h cs = ⊎_elim (λ e. absurd (both_ways (may cs) (h cs) (wider cs e))) (λ e. e) (cases_Bool (less cs))

pub found_of_more : FoundOfMore
found_of_more may less ws n b wider long f a =
    let same : choice_from n b.pans ≡ f.choice = ap₂ choice_from (sym (long f.choice f.best.allowed)) f.number ∙ choice_from_number f.choice in
    record { choice = f.choice; best = best_of_more may less ws f.choice wider f.best (rw same at a); number = f.number; weighs = f.weighs }
