-- What the loop that reads the pans, two by two, keeps.
use Rattle.std.proofs.Common.{◌≡◌, ℕ, ◌+◌, ◌-◌, ◌*◌, ◌^◌, length, drop}
use Rattle.choices.specs.Numbered.{number_of}
use Rattle.exact.specs.Pans.{only_old}
use Rattle.table.specs.Pans.{pairs_of}
use Rattle.table.specs.Rows.{row_at}
use Rattle.table.proofs.Reading.{Reading}
use Rattle.table.proofs.read.Table.read.Given as goal

abbrev pub invariant-loop-pair : goal.invariant-loop-pair
invariant-loop-pair l =
    (n : ℕ)
    × Reading l.self.ring.rule.age l.self.ring.weights.now l.self.ring.ages.now (64 * l.self.shape.blocks - 1) l.weight (2 * l.pair) l.left (row_at l.self.bytes.now l.row l.left) n
    × (l.row ≡ l.self.shape.pad + (l.self.shape.pad + 64 * l.self.shape.blocks) * (pairs_of (length l.self.ring.weights.now) - l.pair))
    × (l.pans ≡ n + 2 ^ (2 * l.pair) * number_of (only_old l.self.ring.rule.age (drop (2 * l.pair) l.self.ring.ages.now)))
