-- What marking the pans keeps: what is done and what is still to do make up the whole, and what is still to do has room.
use Rattle.std.proofs.Common.{◌≡◌, ℕ, ◌+◌, ◌^◌, ◌<◌, ◌≤◌, cond, length, get_or}
use Rattle.choices.specs.Choice.{marked}
use Rattle.choices.specs.Numbered.{choice_from}
use Rattle.packing.proofs.Marking.{marking}
use Rattle.packing.proofs.marks.mark.Given as goal

abbrev pub invariant-loop-x : goal.invariant-loop-x
invariant-loop-x l =
    (marking (λ c x. cond c 0 (x + l.more)) l.numbers l.x-index l.left ≡ marked (λ c x. cond c 0 (x + l.more)) l.initial.numbers (choice_from (length l.initial.numbers) l.pans))
    × ((k : ℕ) → l.x-index ≤ k → get_or l.numbers k 0 + l.more < 2 ^ 32)
