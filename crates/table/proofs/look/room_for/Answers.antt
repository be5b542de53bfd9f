-- What is left of the proof of the bytes that a table takes.
use Rattle.std.proofs.Common.{◌∙◌}
use Rattle.table.specs.Pans.{table_bytes}
use Rattle.table.proofs.Surveying.{span_is}
use Rattle.table.proofs.look.room_for.Goals as goal

pub returns : goal.returns
unfolding table_bytes
returns c =
    let h = c.survey-seen.ensures in
    let span = c.span.ensures ∙ span_is c.args.ring.rule c.args.ring.weights.now c.args.ring.ages.now c.survey-seen.result h in
    rw (c.row_bytes.ensures.is, c.pairs.ensures, span, h.heavy)
