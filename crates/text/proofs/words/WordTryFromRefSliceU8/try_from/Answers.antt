-- A name is what its row spells, or what no row does.
use Rattle.std.proofs.Common.{◌≡◌, true≢false, length, map, refl, sym, ap, ◌∙◌, below_more}
use lib.Pointwise.{bytes_decides}
use Rattle.text.specs.Table.{spelling}
use Rattle.text.proofs.Rows.{spellings, no_row, row_spells, row_text}
use Rattle.text.proofs.words.WordTryFromRefSliceU8.try_from.Goals as goal

pub returns-then-eq : goal.returns-then-eq
returns-then-eq c =
    let rows = c.as_slice-rows in
    sym ((bytes_decides _ _).0 (sym c.eq.ensures ∙ c.if-eq.true)) ∙ c.as_bytes.ensures.value
    ∙ row_spells rows.result.now c.loop-word.word-index _ c.loop-word-test.true (ap (map (λ r. spelling r.0)) rows.ensures ∙ sym (ap (map (λ r. r.1.now)) rows.ensures))

pub loop-word-preserved : goal.loop-word-preserved
loop-word-preserved c =
    let rows = c.as_slice-rows in
    below_more _ _ c.loop-word.invariant
    (λ e. true≢false (sym ((bytes_decides _ _).1 (c.as_bytes.ensures.value ∙ row_text rows.result.now c.loop-word.word-index _ c.loop-word-test.true (ap (map (λ r. r.1.now)) rows.ensures) ∙ sym e)) ∙ sym c.eq.ensures ∙ c.if-eq.false))

pub returns : goal.returns
returns c =
    let long : length c.as_slice-rows.result.now ≡ length spellings = ap length c.as_slice-rows.ensures in
    (refl, no_row _ _ (rw long at c.loop-word-test.false) c.loop-word.invariant)
