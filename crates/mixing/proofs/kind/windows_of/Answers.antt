-- What is left of the proof that the windows are those of the rule.
use Rattle.std.proofs.Common.{arith}
use Rattle.mixing.proofs.Reading.{taken_windows}
use Rattle.mixing.proofs.kind.windows_of.Goals as goal

pub returns : goal.returns
returns c =
    taken_windows c.args.rule.now c.args.many c.loop-kind.windows (omega (arith, c.loop-kind.invariant.0, c.requires.few))
    (λ k l. c.loop-kind.invariant.1 k (omega (arith, c.loop-kind-test.false)))
