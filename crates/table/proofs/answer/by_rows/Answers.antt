-- What is left of the proof that the rows give the best bag.
use Rattle.std.proofs.Common.{sym, ◌∙◌, arith}
use Rattle.std.proofs.lemmas.Bool.{and_parts}
use Rattle.table.proofs.Bests.{rows_fit_behind_a_block, window, none_found, best_found}
use Rattle.table.proofs.answer.by_rows.Goals as goal

pub fill-requires-clause-enough : goal.fill-requires-clause-enough
fill-requires-clause-enough c =
    rows_fit_behind_a_block c.args.ring.rule c.requires.seen c.span-span.ensures c.of-shape.ensures.pad c.of-shape.ensures.blocks c.requires.room

pub invariant_of-table : goal.invariant_of-table
invariant_of-table c =
    let h = c.requires.seen in
    let p = and_parts c.args.seen.old_filled _ c.requires.leaves in
    record {
      old_filled = sym h.old_filled ∙ p.0;
      whole = omega (arith, c.of-shape.ensures.blocks);
      enough = omega (arith, rows_fit_behind_a_block c.args.ring.rule h c.span-span.ensures c.of-shape.ensures.pad c.of-shape.ensures.blocks c.requires.room);
    }

pub returns-in_err-x : goal.returns-in_err-x
returns-in_err-x c =
    let r = c.args.ring in
    let t =
    window c.requires.seen c.requires.leaves r.ordered.paired r.ordered.few c.span-span.ensures (omega (arith, c.of-shape.ensures.blocks)) c.fill.ensures
    c.saturating_sub-from.ensures c.min-limit.ensures in
    rw c.from_residual.ensures (none_found t c.in_err-x.ensures)

pub returns : goal.returns
returns c =
    let r = c.args.ring in
    let h = c.requires.seen in
    let t =
    window h c.requires.leaves r.ordered.paired r.ordered.few c.span-span.ensures (omega (arith, c.of-shape.ensures.blocks)) c.fill.ensures
    c.saturating_sub-from.ensures c.min-limit.ensures in
    rw h.old_weight (best_found t c.in_ok-x.ensures c.read.ensures)
