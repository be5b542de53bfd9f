-- One digit more each turn.
use Rattle.std.proofs.Common.{get_or}
use Rattle.std.specs.Int.{IsInRange}
use Rattle.text.proofs.Digits.{more_digits, more_value}
use Rattle.text.proofs.scanning.figures.Goals as goal

pub loop-i-preserved : goal.loop-i-preserved
loop-i-preserved c =
    let digit : IsInRange 48 57 (get_or c.args.bytes.now c.loop-i.i 0) = c.if-not-is_ascii_digit.ensures.cases in
    (more_digits c.args.bytes.now c.loop-i.i c.loop-i-test.true digit c.loop-i.invariant.0, rw (c.saturating_add-value.ensures, c.saturating_mul.ensures, c.from.ensures) (more_value c.args.bytes.now c.loop-i.i c.loop-i-test.true digit c.loop-i.value c.loop-i.invariant.1))
