-- What is left of the proof of the number of a choice and one pan before it.
use Rattle.std.proofs.Common.{arith}
use Rattle.exact.proofs.picks.joined.Goals as goal

pub returns : goal.returns
returns c = omega arith
