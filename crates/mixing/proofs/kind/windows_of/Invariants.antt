-- What the windows are so far.
use Rattle.std.proofs.Common.{◌≡◌, ℕ, ◌<◌, length, get_or}
use Rattle.kinds.specs.Kinds.{no_window}
use Rattle.mixing.specs.Windows.{window_at}
use Rattle.mixing.proofs.kind.windows_of.Given as goal

abbrev pub invariant-loop-kind : goal.invariant-loop-kind
invariant-loop-kind l = (length l.windows ≡ 4) × ((k : ℕ) → k < l.kind → get_or l.windows k no_window ≡ window_at l.rule k)
