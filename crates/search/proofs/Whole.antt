-- From all numbers below 2 ^ n to all choices: each allowed choice is one of the numbers.
use Rattle.std.proofs.Common.{◌≡◌, ℕ, ◌^◌, ◌<◌, Bool, true, false, List, length, sym, refl, ap, ◌∙◌}
use Rattle.choices.specs.Choice.{Choice}
use Rattle.choices.specs.Numbered.{choice_of}
use Rattle.choices.proofs.Numbers.{numbered}
use Rattle.order.specs.Order.{better, BestOf, NoneOf}
use Rattle.search.specs.Sought.{Leads}

module _ (may : Choice → Bool) (ws : List ℕ) (n : ℕ) (long : (cs : Choice) → may cs ≡ true → length cs ≡ n) where
  pub none_whatever : ((k : ℕ) → k < 2 ^ n → may (choice_of n k) ≡ false) → NoneOf may
  none_whatever h cs = at (may cs) refl
    where
      at : (b : Bool) → may cs ≡ b → may cs ≡ false
      at false e = e
      at true e = let m = numbered n cs (long cs e) in ap may (sym m.2) ∙ h m.0 m.1

  pub best_whatever : (b : ℕ) → Leads (λ k. may (choice_of n k)) (λ i j. better ws (choice_of n i) (choice_of n j)) (2 ^ n) b → BestOf may ws (choice_of n b)
  best_whatever b h =
      record {
        allowed = h.allowed;
        unbeaten = λ ds a.
            let m = numbered n ds (long ds a) in
            ap (λ (cs : Choice). better ws cs (choice_of n b)) (sym m.2) ∙ h.unbeaten m.0 m.1 (ap may m.2 ∙ a);
      }
