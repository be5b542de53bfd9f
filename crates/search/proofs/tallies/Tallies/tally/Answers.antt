-- What is left of the proof that the lent tallies tell of every choice what they tell of the bits of the ring's pans.
use Rattle.std.proofs.Common.{length, arith}
use Rattle.std.proofs.lemmas.Nat.{one_shl}
use Rattle.search.proofs.Groups.{within}
use Rattle.search.proofs.tallies.Tallies.tally.Goals as goal

pub returns : goal.returns
returns c =
    let ring = c.args.self.now.ring in
    let n = length ring.weights.now in
    rw (one_shl n 64 (omega (arith, ring.ordered.few)), c.lent.ensures, within n c.args.choice) at c.tally.ensures
