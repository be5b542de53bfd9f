-- The choices of groups of six pans. Assumes nothing: these are definitions.
--   part           the choice whose tally is entry i: choice x of group g is entry x + 64 * g, and group 0 is the last six pans
--   nothing        the tally of a choice that opens no pan
--   TalliedBelow   of each entry whose choice is below some number: it is the tally of that choice
use Rattle.std.specs.Prelude.{ℕ, ◌*◌, ◌/◌, ◌%◌, ◌^◌, ◌<◌, List, length, slice_index_or}
use Rattle.choices.specs.Numbered.{choice_of}
use Rattle.choices.specs.Tallied.{Tallied}
use Rattle.choices.specs.declared.ring.Ring.{Ring}
use Rattle.choices.specs.declared.tally.Tally.{Tally}

abbrev pub part : ℕ → ℕ
part i = i % 64 * 2 ^ (6 * (i / 64))

abbrev pub nothing : Tally
nothing = record { weight = 0; pans = 0; empty = 0; old = 0 }

abbrev pub TalliedBelow : Ring → ℕ → List Tally → Type 0
TalliedBelow r b ts =
    (i : ℕ) → i < 256 → part i < b → Tallied r.weights.now r.ages.now r.rule.age (choice_of (length r.weights.now) (part i)) (slice_index_or ts i nothing)
