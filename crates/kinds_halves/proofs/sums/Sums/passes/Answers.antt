-- What is left of the proof of what a place tells of its choice.
use Rattle.std.proofs.Common.{◌^◌, ◌≤◌, length, pow_mono, arith}
use Rattle.std.proofs.lemmas.Nat.{one_shl, pow_pos}
use Rattle.kinds_halves.proofs.sums.Sums.passes.Goals as goal

pub keeps-requires : goal.keeps-requires
keeps-requires c =
    let n = length c.args.self.now.mixed.ring.weights.now in
    let few = c.args.self.now.mixed.ring.ordered.few in
    let most : 2 ^ n ≤ 2 ^ 24 = pow_mono few in
    rw (one_shl n 64 (omega (arith, few))) (omega (arith, most, pow_pos n))
