-- What is left of the proof that nothing passes beside a place.
use Rattle.std.proofs.Common.{◌^◌, ◌≤◌, length, pow_mono, arith}
use Rattle.std.proofs.lemmas.Nat.{one_shl, pow_pos}
use Rattle.kinds_halves.proofs.Skipping.{last_fits, useless_is}
use Rattle.kinds_halves.proofs.sums.Sums.useless.Goals as goal

pub overflow_sub-fullest-3 : goal.overflow_sub-fullest-3
overflow_sub-fullest-3 c =
    let m = c.args.self.now.mixed in
    let few = m.ring.ordered.few in
    let n = length m.ring.weights.now in
    rw (one_shl n 64 (omega (arith, few)), one_shl c.args.free 64 (omega (arith, few, c.requires.within))) (last_fits m.kinds.now m.ring.weights.now c.args.free c.args.place few c.requires.within c.requires.clear)

pub misses-requires-clause-barest : goal.misses-requires-clause-barest
misses-requires-clause-barest c =
    let m = c.args.self.now.mixed in
    let few = m.ring.ordered.few in
    let n = length m.ring.weights.now in
    let most : 2 ^ n ≤ 2 ^ 24 = pow_mono few in
    rw (one_shl n 64 (omega (arith, few)), one_shl c.args.free 64 (omega (arith, few, c.requires.within))) (omega (arith, most, pow_pos n))

pub misses-requires-clause-fullest : goal.misses-requires-clause-fullest
misses-requires-clause-fullest c =
    let few = c.args.self.now.mixed.ring.ordered.few in
    let n = length c.args.self.now.mixed.ring.weights.now in
    let most : 2 ^ n ≤ 2 ^ 24 = pow_mono few in
    rw (one_shl n 64 (omega (arith, few))) (omega (arith, most, pow_pos n))

pub returns : goal.returns
returns c = λ e.
    let m = c.args.self.now.mixed in
    let few = m.ring.ordered.few in
    let n = length m.ring.weights.now in
    useless_is m.kinds.now m.ring.weights.now c.args.free c.args.place few c.requires.within c.requires.clear m.ring.rule.pans m.windows.now
    (rw (one_shl n 64 (omega (arith, few)), one_shl c.args.free 64 (omega (arith, few, c.requires.within))) at (c.misses.ensures e))
