-- When the rest of a block of choices can be skipped. Assumes nothing: these are definitions.
--   Useless   of the 2 ^ free choices from `head` on, none after the head fits and weighs at most `most`
use Rattle.std.specs.Prelude.{◌≡◌, ℕ, ◌+◌, ◌^◌, ◌<◌, true, List, length}
use Rattle.choices.specs.Choice.{weight_of, fits}
use Rattle.choices.specs.Numbered.{choice_of}
use Rattle.choices.specs.declared.rule.Rule.{Rule}

abbrev pub Useless : Rule → (weights ages : List ℕ) → (head free most : ℕ) → Type 0
Useless r ws as' head free most =
    (j : ℕ) → head < j → j < head + 2 ^ free → fits r ws as' (choice_of (length ws) j) ≡ true → most < weight_of ws (choice_of (length ws) j)
