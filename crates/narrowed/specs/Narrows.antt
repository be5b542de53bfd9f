-- A ring that was narrowed, and what its best bag is the best of. Assumes nothing: these are definitions.
--   Narrows      the pans of ts were taken away, and those of us forced open
--   AnswersFor   what is found for one ring and rule is found for the narrowed pans of the other
use Rattle.std.specs.Prelude.{◌≡◌, ℕ, List, length, Option, take}
use Rattle.choices.specs.Choice.{Choice, emptied, fits}
use Rattle.choices.specs.declared.rule.Rule.{Rule}
use Rattle.order.specs.Order.{Found}
use Rattle.order.specs.declared.bag.Bag.{Bag}
use Rattle.narrowed.specs.Narrow.{by_marks, fits_narrowed, old_marks}
use Rattle.narrowed.specs.declared.narrowed.Narrowed.{Narrowed}

pub record Narrows (r : Rule) (ws as' : List ℕ) (ts us : Choice) (s : Narrowed) : Type 0 where
  pub rule : s.rule ≡ by_marks r
  pub pans : s.pans ≡ length ws
  pub weights : take s.pans s.weights ≡ emptied ws ts
  pub marks : take s.pans s.marks ≡ old_marks r.age as' us
  pub paired : length as' ≡ length ws
  pub taken : length ts ≡ length ws
  pub forced : length us ≡ length ws

abbrev pub AnswersFor : Narrowed → Rule → (weights ages : List ℕ) → Type 0
AnswersFor s q vs ms =
    (r : Rule) (ws as' : List ℕ) (ts us : Choice) (o : Option Bag) → Narrows r ws as' ts us s →
    Found (fits q vs ms) vs o → Found (fits_narrowed r ws as' ts us) ws o
