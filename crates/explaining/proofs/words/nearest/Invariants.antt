-- What is found is the nearest of the words looked at.
use Rattle.std.proofs.Common.{take}
use Rattle.explaining.proofs.Nearness.{Nearest}
use Rattle.explaining.proofs.words.nearest.Given as goal

abbrev pub invariant-loop-word : goal.invariant-loop-word
invariant-loop-word l = Nearest l.name (take l.word-index l.rows) l.found l.least
