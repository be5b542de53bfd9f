-- A line was read, or the input is at its end.
use Rattle.std.proofs.Common.{arith, ap, length}
use Rattle.serving.proofs.Cutting.{next_left, all_read}
use Rattle.serving.proofs.lines.next_line.Goals as goal

pub returns-then-branch-eq0 : goal.returns-then-branch-eq0
returns-then-branch-eq0 g c = all_read _ (c.in_ok-read_until.ensures.end c.if-branch-eq0.true)

pub returns : goal.returns
returns g c =
    let read = c.in_ok-read_until.ensures in
    next_left _ _ _ _ _ c.cleared.ensures read.bytes read.rest
    (λ e. c.if-branch-eq0.false (omega (arith, read.ok, c.read_until.new.buf.ok.0, ap length e)))
    c.cut_feed.ensures
