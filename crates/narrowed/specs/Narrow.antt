-- What fits a ring some of whose pans have to stay shut, and some to be opened. Assumes nothing: these are definitions.
--   apart          no pan is opened by both choices
--   opens_all      every pan of the first choice is opened by the second
--   fits_without   fits, and opens none of these pans
--   fits_opening   fits, and opens all of these pans
--   fits_narrowed  fits, opens none of the first pans, and opens all of the others
--   made_old       the ages, with that of each of these pans made the rule's
--   old_marks      for each pan 1 if it is old or one of these pans, else 0
--   by_marks       the rule for ages that are such marks
use Rattle.std.specs.Prelude.{ℕ, Bool, true, not, ◌&&◌, ◌||◌, List, [], ◌∷◌, nat_le, if◌then◌else◌}
use Rattle.choices.specs.Choice.{Choice, fits, marked}
use Rattle.choices.specs.declared.rule.Rule.{Rule}

abbrev pub apart : Choice → Choice → Bool
apart [] cs = true
apart (t ∷ ts) [] = true
apart (t ∷ ts) (c ∷ cs) = not (t && c) && apart ts cs

abbrev pub opens_all : Choice → Choice → Bool
opens_all [] cs = true
opens_all (t ∷ ts) [] = true
opens_all (t ∷ ts) (c ∷ cs) = (not t || c) && opens_all ts cs

abbrev pub fits_without : Rule → (weights ages : List ℕ) → Choice → Choice → Bool
fits_without r ws as' ts cs = fits r ws as' cs && apart ts cs

abbrev pub fits_opening : Rule → (weights ages : List ℕ) → Choice → Choice → Bool
fits_opening r ws as' us cs = fits r ws as' cs && opens_all us cs

abbrev pub fits_narrowed : Rule → (weights ages : List ℕ) → Choice → Choice → Choice → Bool
fits_narrowed r ws as' ts us cs = fits_without r ws as' ts cs && opens_all us cs

abbrev pub made_old : ℕ → List ℕ → Choice → List ℕ
made_old old = marked (λ t a. if t then old else a)

abbrev pub old_marks : ℕ → List ℕ → Choice → List ℕ
old_marks old = marked (λ t a. if t || nat_le old a then 1 else 0)

abbrev pub by_marks : Rule → Rule
by_marks r = record r { age = 1 }
