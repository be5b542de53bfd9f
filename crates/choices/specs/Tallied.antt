-- What a look over the pans has to tell of a choice. Assumes nothing: these are definitions.
--   ticked       for each number whether it passes a test, as 1 or 0
--   empty_ones   for each pan whether it is empty
--   old_ones     for each pan whether it is old: it has waited so many bags, or more
--   old_count_of how many pans are old
--   Tallied      a tally is that of a choice: each of its numbers adds up over the opened pans
--   Adds         a tally is two others added up
--   makes_bag    what a tally has to be for the choice to fit a rule, where so many pans are old
use Rattle.std.specs.Prelude.{◌≡◌, ℕ, ◌+◌, Bool, ◌&&◌, leb, List, [], ◌∷◌, ◌==◌, nat_eq, nat_le}
use Rattle.choices.specs.Choice.{Choice, bit, weight_of, opened}
use Rattle.choices.specs.declared.rule.Rule.{Rule}
use Rattle.choices.specs.declared.tally.Tally.{Tally}

abbrev pub ticked : (ℕ → Bool) → List ℕ → List ℕ
ticked f [] = []
ticked f (x ∷ xs) = bit (f x) ∷ ticked f xs

abbrev pub empty_ones : List ℕ → List ℕ
empty_ones = ticked (λ w. nat_eq w 0)

abbrev pub old_ones : ℕ → List ℕ → List ℕ
old_ones old = ticked (λ a. leb old a)

abbrev pub old_count_of : ℕ → List ℕ → ℕ
old_count_of old [] = 0
old_count_of old (a ∷ as') = bit (nat_le old a) + old_count_of old as'

pub record Tallied (ws as' : List ℕ) (old : ℕ) (cs : Choice) (t : Tally) : Type 0 where
  pub weighs : t.weight ≡ weight_of ws cs
  pub counts : t.pans ≡ opened cs
  pub empties : t.empty ≡ weight_of (empty_ones ws) cs
  pub olds : t.old ≡ weight_of (old_ones old as') cs

pub record Adds (a b t : Tally) : Type 0 where
  pub weighs : t.weight ≡ a.weight + b.weight
  pub counts : t.pans ≡ a.pans + b.pans
  pub empties : t.empty ≡ a.empty + b.empty
  pub olds : t.old ≡ a.old + b.old

abbrev pub makes_bag : Rule → ℕ → Tally → Bool
makes_bag r old t =
    ((nat_le r.target t.weight && nat_le t.weight (r.target + r.above)) && nat_le t.pans r.pans)
    && (t.empty == 0 && t.old == old)
