-- The table is of single pans.
use Rattle.exact.proofs.picks.two.Given as goal

abbrev pub ghost-lead : goal.ghost-lead
ghost-lead a = 1
