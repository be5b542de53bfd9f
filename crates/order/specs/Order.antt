-- Which of two choices is better, and which is the best of all that are allowed. Assumes nothing: these are definitions.
--   then_by      an order by a number first, by the next order where the numbers are equal
--   first_more   the first pan that is not the same in both is opened in the first
--   better       lighter; of equals with fewer pans; of these the one that opens the first pan that differs
--   BestOf       a choice that is allowed, and than which no allowed choice is better
--   NoneOf       no choice whatever is allowed
--   Found        what a search answers: the best, by its number and its weight, or that none is allowed
use Rattle.std.specs.Prelude.{◌≡◌, ℕ, Bool, true, false, ◌&&◌, ◌||◌, List, [], ◌∷◌, Some, None, Option, ◌==◌, nat_lt}
use Rattle.choices.specs.Choice.{Choice, weight_of, opened}
use Rattle.choices.specs.Numbered.{number_of}
use Rattle.order.specs.declared.bag.Bag.{Bag}

abbrev pub then_by : {X : Type 0} → (X → ℕ) → (X → X → Bool) → X → X → Bool
then_by key rest x y = nat_lt (key x) (key y) || (key x == key y && rest x y)

abbrev pub first_more : Choice → Choice → Bool
first_more [] ds = false
first_more (c ∷ cs) [] = false
first_more (true ∷ cs) (true ∷ ds) = first_more cs ds
first_more (true ∷ cs) (false ∷ ds) = true
first_more (false ∷ cs) (true ∷ ds) = false
first_more (false ∷ cs) (false ∷ ds) = first_more cs ds

unfoldable pub better : List ℕ → Choice → Choice → Bool
better ws = then_by (weight_of ws) (then_by opened first_more)

pub record BestOf (may : Choice → Bool) (ws : List ℕ) (cs : Choice) : Type 0 where
  pub allowed : may cs ≡ true
  pub unbeaten : (ds : Choice) → may ds ≡ true → better ws ds cs ≡ false

abbrev pub NoneOf : (Choice → Bool) → Type 0
NoneOf may = (cs : Choice) → may cs ≡ false

pub record BestBag (may : Choice → Bool) (ws : List ℕ) (b : Bag) : Type 0 where
  pub choice : Choice
  pub best : BestOf may ws choice
  pub number : b.pans ≡ number_of choice
  pub weighs : b.weight ≡ weight_of ws choice

abbrev pub Found : (Choice → Bool) → List ℕ → Option Bag → Type 0
Found may ws None = NoneOf may
Found may ws (Some b) = BestBag may ws b
