-- What is left of the proof that blocks are made with two pans more.
use Rattle.std.proofs.Common.{◌≡◌, ◌∙◌, sym, arith}
use Rattle.table.specs.Rows.{row_at}
use Rattle.table.proofs.Adding.{added_both}
use Rattle.table.proofs.Joining.{one_joined}
use Rattle.table.proofs.blocks.add_blocks.Goals as goal

pub add_far-requires-clause-far : goal.add_far-requires-clause-far
add_far-requires-clause-far c = λ some. omega (arith, some, c.min-near.ensures, c.max.ensures)

pub add_far-requires-clause-blank : goal.add_far-requires-clause-blank
add_far-requires-clause-blank c = λ j less. c.add_near.ensures.same _ (omega (arith, less, c.requires.room.0, c.requires.room.1)) ∙ c.requires.blank j less

pub returns-then-first-second-eq0-clause-made : goal.returns-then-first-second-eq0-clause-made
returns-then-first-second-eq0-clause-made c = λ x low h.
    let first : c.args.first ≡ 0 = omega (arith, c.if-first-second-eq0.true) in
    let second : c.args.second ≡ 0 = omega (arith, c.if-first-second-eq0.true) in
    rw (first, second) (c.add_none.ensures.made x low h)

pub returns-then-min-eq0-clause-made : goal.returns-then-min-eq0-clause-made
returns-then-min-eq0-clause-made c = λ x low h.
    c.add_one.ensures.made x low h ∙ one_joined (row_at c.args.room.now c.args.row) c.args.first c.args.second x (sym c.min.ensures ∙ c.if-min-eq0.true)

pub returns-clause-made : goal.returns-clause-made
returns-clause-made c = added_both (omega (arith, c.requires.room.1)) c.add_near.ensures c.add_far.ensures
