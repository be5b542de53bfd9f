-- The table is of two pans.
use Rattle.exact.proofs.picks.three.Given as goal

abbrev pub ghost-lead : goal.ghost-lead
ghost-lead a = 2
