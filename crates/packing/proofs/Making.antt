-- A bag that was found and whose pans were opened is made; and two entries over the same pans answer the same.
use Rattle.std.proofs.Common.{◌≡◌, ℕ, ◌≤◌, true, length, Some, None, Option, Ok, Err, sym, refl, ap, ◌∙◌, ap₂, arith}
use Rattle.std.proofs.lemmas.Bool.{le-leb, both_ways}
use Rattle.std.specs.Prelude.{IsSomeAnd}
use Rattle.choices.specs.Choice.{Choice, emptied, aged, weight_of}
use Rattle.choices.specs.Numbered.{choice_from, number_of}
use Rattle.choices.specs.Ruled.{rule_in}
use Rattle.choices.specs.Stand.{Stand, stand, InOrder, May, by_rule, Allowed, left_by, Looser}
use Rattle.choices.specs.declared.limits.TheConstants.{LIMIT}
use Rattle.choices.specs.declared.rule.Rule.{Rule}
use Rattle.choices.proofs.Choices.{fitting}
use Rattle.choices.proofs.Leaving.{nothing_lost, left_young, left_in_order, looser_fits}
use Rattle.choices.proofs.Numbers.{choice_from_number}
use Rattle.halves.specs.Entries.{room_for}
use Rattle.order.specs.Order.{BestBag}
use Rattle.order.specs.declared.bag.Bag.{Bag}
use Rattle.order.proofs.Orders.{best_is_one, no_lighter}
use Rattle.packing.specs.Entry.{Made, Packs, Answer, Answered, Kept, Keeps, Promised}
use Rattle.packing.specs.Laws.{EntriesAgree}
use Rattle.packing.specs.Refusals.{first_refusal, room_refusal}
use Rattle.answers.specs.Refusals.{or_else}
use Rattle.answers.specs.declared.refusal.Refusal.{Refusal}

-- every allowed choice opens no empty pan and every old one, and is not too heavy
abbrev pub Sound : May → (age least top : ℕ) → Stand → Type 0
Sound may age least top s = (cs : Choice) → may s cs ≡ true → Allowed age least top s cs

pub made_by :
    {may : May} {age least top : ℕ} {s t : Stand} {b : Bag} → Sound may age least top s → BestBag (may s) s.weights b → length s.ages ≡ length s.weights →
    t.weights ≡ emptied s.weights (choice_from (length s.weights) b.pans) → t.ages ≡ aged s.ages (choice_from (length s.ages) b.pans) →
    Made may s b.pans b.weight t
made_by {s = s} {t} {b} sound f paired e g =
    record {
      choice = f.choice;
      best = f.best;
      number = f.number;
      weighs = f.weighs;
      leaves = ap₂ stand (e ∙ ap (emptied s.weights) chosen) (g ∙ ap (aged s.ages) (ap (λ (n : ℕ). choice_from n b.pans) paired ∙ chosen));
    }
  where
    chosen : choice_from (length s.weights) b.pans ≡ f.choice
    chosen = ap₂ choice_from (sym (sound f.choice f.best.allowed).whole) f.number ∙ choice_from_number f.choice

-- what is promised of every bag
pub kept_by :
    {may : May} {age least top : ℕ} {s t : Stand} {b : Bag} → Sound may age least top s → age ≤ LIMIT → InOrder s → Made may s b.pans b.weight t → Kept age s b t
kept_by {s = s} sound small o m =
    let a = sound m.choice m.best.allowed in
    rw m.leaves
    (record {
      nothing_lost = omega (arith, m.weighs, nothing_lost s.weights m.choice);
      young = left_young o.paired a;
      ordered = left_in_order small o a;
    })

-- of the same pans by the same rule there is only one answer
packed_alike : (r : Rule) (s : Stand) (d e : Option Bag) (t u : Stand) → Packs (by_rule r) s d t → Packs (by_rule r) s e u → (d ≡ e) × (t ≡ u)
packed_alike r s (Some b) (Some d) t u m k = (
  ap₂ (λ p w. Some (record { pans = p; weight = w })) (m.number ∙ ap number_of same ∙ sym k.number) (m.weighs ∙ ap (weight_of s.weights) same ∙ sym k.weighs),
  m.leaves ∙ ap (left_by s) same ∙ sym k.leaves,
)
  where
    same : m.choice ≡ k.choice
    same = best_is_one (by_rule r s) s.weights (length s.weights) (λ cs h. (fitting r s.weights s.ages cs h).whole) m.choice k.choice m.best k.best
packed_alike r s None None t u m k = (refl, m.1 ∙ sym k.1)
packed_alike r s (Some b) None t u m k = absurd (both_ways _ (k.0 m.choice) m.best.allowed)
packed_alike r s None (Some d) t u m k = absurd (both_ways _ (m.0 k.choice) k.best.allowed)

pub answered_alike :
    (o : Option Refusal) (r : Rule) (s : Stand) (d e : Answer) (t u : Stand) → Answered o (by_rule r) s d t → Answered o (by_rule r) s e u →
    (d ≡ e) × (t ≡ u)
answered_alike None r s (Ok d) (Ok e) t u m k = let h = packed_alike r s d e t u m k in (ap Ok h.0, h.1)
answered_alike None r s (Err f) e t u m k = absurd m
answered_alike None r s (Ok d) (Err g) t u m k = absurd k
answered_alike (Some f) r s (Err g) (Err h) t u m k = (ap Err (m.0 ∙ sym k.0), m.1 ∙ sym k.1)
answered_alike (Some f) r s (Ok d) e t u m k = absurd m
answered_alike (Some f) r s (Err g) (Ok e) t u m k = absurd k

pub or_none : {X : Type 0} (o : Option X) → or_else o None ≡ o
or_none None = refl
or_none (Some x) = refl

pub entries_agree : EntriesAgree
entries_agree rs s m d e t u enough a b = answered_alike (first_refusal 4 rs s) (rule_in rs) s d e t u a (rw same at b)
  where
    same : room_refusal rs s m ≡ first_refusal 4 rs s
    same = rw (le-leb (room_for (length s.weights)) m enough) (or_none (first_refusal 4 rs s))

-- the best bag is no heavier than what a stricter rule allows, and there is one where a stricter rule allows something
pub lightest :
    (r : Rule) (s t : Stand) (b : Option Bag) → Packs (by_rule r) s b t → (q : Rule) (cs : Choice) → Looser q r → by_rule q s cs ≡ true →
    IsSomeAnd b (λ x. x.weight ≤ weight_of s.weights cs)
lightest r s t None m q cs l h = absurd (both_ways _ (m.0 cs) (looser_fits s cs l h))
lightest r s t (Some b) m q cs l h = omega (arith, m.weighs, no_lighter s.weights m.choice cs (m.best.unbeaten cs (looser_fits s cs l h)))

pub promised : (r : Rule) (s t : Stand) (b : Option Bag) → Keeps r.age s b t → Packs (by_rule r) s b t → Promised r s b t
promised r s t b k m = record { keeps = k; lightest = lightest r s t b m }
