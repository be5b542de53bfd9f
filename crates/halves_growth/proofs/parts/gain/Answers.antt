-- What is left of the proof of what an opened pan gains.
use Rattle.std.proofs.Common.{arith}
use Rattle.std.proofs.lemmas.Nat.{one_shl, pow_below}
use Rattle.halves_growth.proofs.parts.gain.Goals as goal

pub overflow_sub-result : goal.overflow_sub-result
overflow_sub-result c = omega (arith, one_shl c.args.behind 64 (omega arith), pow_below c.args.behind 24 c.requires.few)

pub returns : goal.returns
returns c = omega (arith, one_shl c.args.behind 64 (omega arith), pow_below c.args.behind 24 c.requires.few)
