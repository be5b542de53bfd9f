-- The old and the free pans of a ring. Assumes nothing: these are definitions.
--   only_old   the choice that opens the old pans alone: those that have waited so many bags, or more
--   if_free    what a pan weighs if it is free, which is young and not empty; else more than any target
--   free_of    that of each pan
use Rattle.std.specs.Prelude.{ℕ, Bool, cond, not, ◌&&◌, List, [], ◌∷◌, nat_le, nat_lt}
use Rattle.choices.specs.Choice.{Choice}

abbrev pub only_old : ℕ → (ages : List ℕ) → Choice
only_old old [] = []
only_old old (a ∷ as') = not (nat_lt a old) ∷ only_old old as'

abbrev pub if_free : Bool → ℕ → ℕ
if_free young w = cond (young && nat_le 1 w) w 26000000

abbrev pub free_of : ℕ → (weights ages : List ℕ) → List ℕ
free_of old [] as' = []
free_of old (w ∷ ws) [] = []
free_of old (w ∷ ws) (a ∷ as') = if_free (nat_lt a old) w ∷ free_of old ws as'
