-- What is left of the proof of what shut pans add.
use Rattle.std.proofs.Common.{◌+◌, ◌^◌, ◌≤◌, arith, pow_mono}
use Rattle.std.proofs.lemmas.Nat.{one_shl}
use Rattle.halves_growth.proofs.parts.all_shut.Goals as goal

pub overflow_sub-result : goal.overflow_sub-result
overflow_sub-result c =
    let b = c.args.behind in
    let n = c.args.count in
    let m : 2 ^ b ≤ 2 ^ (b + n) = pow_mono (omega arith) in
    omega (arith, one_shl b 64 (omega (arith, c.requires)), one_shl (b + n) 64 (omega (arith, c.requires)))

pub returns : goal.returns
returns c = omega (arith, one_shl c.args.behind 64 (omega (arith, c.requires)), one_shl (c.args.behind + c.args.count) 64 (omega (arith, c.requires)))
