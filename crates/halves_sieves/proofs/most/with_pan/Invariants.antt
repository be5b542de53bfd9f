-- The entries that are done, from the most pans down.
use Rattle.halves_sieves.proofs.Weighing.{Worked}
use Rattle.halves_sieves.proofs.most.with_pan.Given as goal

abbrev pub invariant-loop-r : goal.invariant-loop-r
invariant-loop-r l = Worked l.weight l.initial.most l.most l.r
