-- What is left of the proof that a row is made with two pans more.
use Rattle.std.proofs.Common.{◌≡◌, ℕ, ◌+◌, ◌-◌, ◌*◌, ◌∙◌, sym, arith}
use Rattle.table.specs.Rows.{row_at}
use Rattle.table.proofs.Joining.{both_same, pad_block}
use Rattle.table.proofs.rows.add_pair.Goals as goal

pub add_blocks-requires-clause-blank : goal.add_blocks-requires-clause-blank
add_blocks-requires-clause-blank c = λ j less.
    c.blank.ensures.same _ (omega (arith, c.args.shape.long, c.requires.room.0, c.wide.ensures))
    ∙ pad_block _ c.args.shape.long c.requires.room.0 c.requires.blank j less

pub returns-clause-made : goal.returns-clause-made
returns-clause-made c = λ x low h.
    rw (sym c.wide.ensures)
    (c.blank-2.ensures.same _ (omega arith)
    ∙ c.add_blocks.ensures.made x low h
    ∙ both_same (row_at c.blank.new.room c.args.row) (row_at c.args.room.now c.args.row) c.args.second c.args.first x
    (λ z less. c.blank.ensures.same _ (omega (arith, c.wide.ensures, c.requires.within))))

pub returns-clause-never : goal.returns-clause-never
returns-clause-never c = λ x low h.
    let y : ℕ = x - 64 * c.args.high in
    let e : c.args.row + (c.args.shape.pad + 64 * c.args.shape.blocks) + x ≡ c.args.row + c.wide.result + 64 * c.args.high + y = omega (arith, c.wide.ensures) in
    rw e (c.blank-2.ensures.blank y (omega arith))
