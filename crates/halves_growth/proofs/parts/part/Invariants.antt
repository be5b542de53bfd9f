-- What the entries are from turn to turn: the places of the choices of the pans from k on.
use Rattle.halves_growth.proofs.ByPan.{From}
use Rattle.halves_growth.proofs.parts.part.Given as goal

abbrev pub invariant-loop-k : goal.invariant-loop-k
invariant-loop-k l = From l.behind l.to l.pans l.k l.es l.n
