-- What the loop over the pans behind a pan keeps.
use Rattle.std.proofs.Common.{take}
use Rattle.exact.specs.Few.{Marked, Sums}
use Rattle.exact.proofs.tables.mark.Given as goal

abbrev pub invariant-loop-w : goal.invariant-loop-w
invariant-loop-w l = Marked (Sums l.first (take l.w-index l.behind)) l.byte l.initial.pairs l.pairs
