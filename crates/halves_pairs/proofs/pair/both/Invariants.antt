-- What the entries are from turn to turn: the places of the choices of each part's pans from k on.
use Rattle.halves_growth.proofs.ByPan.{From}
use Rattle.halves_pairs.proofs.pair.both.Given as goal

abbrev pub invariant-loop-k : goal.invariant-loop-k
invariant-loop-k l =
    From l.count l.to l.front l.k l.front_room l.sizes.front
    × From 0 l.to l.back l.k l.back_room l.sizes.back
