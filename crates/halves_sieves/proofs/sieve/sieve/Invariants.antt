-- What the sieve keeps from turn to turn.
use Rattle.std.proofs.Common.{length}
use Rattle.halves_sieves.proofs.Sieving.{Sieving}
use Rattle.halves_sieves.proofs.sieve.sieve.Given as goal

abbrev pub invariant-loop-i : goal.invariant-loop-i
invariant-loop-i l = Sieving l.short l.initial.es l.es (length l.initial.es) l.i l.left
