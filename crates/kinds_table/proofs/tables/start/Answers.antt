-- What is left of the proof that the rows of no pan are written.
use Rattle.std.proofs.Common.{arith}
use Rattle.kinds_table.proofs.Filling.{tables_none}
use Rattle.kinds_table.proofs.tables.start.Goals as goal

pub returns : goal.returns
returns c = λ l none.
    let p = c.requires.laid in
    let inv = c.loop-kind.invariant in
    tables_none l c.args.plan.most c.args.plan.kinds c.args.plan.wide c.loop-kind.rows none (λ k. omega (arith, p.wide, p.top k)) (omega (arith, c.requires.room, c.loop-kind.auto.rows, c.fill.auto.self, c.fill.ensures.len))
    inv.0 (λ k few. inv.1 k (omega (arith, c.loop-kind-test.false))) (λ j low apart. inv.2 j low (λ k few. apart k (omega (arith, c.loop-kind-test.false, c.loop-kind.auto))))
