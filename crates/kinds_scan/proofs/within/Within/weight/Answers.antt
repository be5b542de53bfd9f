-- What is left of the proof of what a choice has of the kind.
use Rattle.std.proofs.Common.{length}
use Rattle.search.proofs.Groups.{candidate}
use Rattle.kinds_scan.proofs.within.Within.weight.Goals as goal

pub tally-requires : goal.tally-requires
tally-requires g c =
    let s = c.args.self.now in
    let ring = s.own.ring in
    candidate (length ring.weights.now) c.args.k ring.ordered.few (rw s.same at c.requires)
