-- What is left of the proof which of two pans are opened.
use Rattle.std.proofs.Common.{◌≡◌, ℕ, ◌+◌, ◌-◌, ◌<◌, ◌≤◌, min, List, get_or, refl, ◌∙◌, arith}
use Rattle.std.proofs.lemmas.Bool.{le-ltb, lt-ltb}
use Rattle.table.specs.Rows.{back, joined, row_at}
use Rattle.table.proofs.Joining.{shifted, back_joined}
use Rattle.table.proofs.read.Table.opens.Goals as goal

-- the row of the pans behind stands one row before, and no look goes further back than a byte before its weight 0
module _
    (bytes : List ℕ) (row whole pad left : ℕ) {wide : ℕ} (is : wide ≡ whole) (low : pad + whole ≤ row) (some : 64 ≤ pad)
    (blank : (j : ℕ) → j < pad → get_or bytes (row - whole - pad + j) 0 ≡ 255)
  where
    -- the byte a weight back
    place : (w : ℕ) {far : ℕ} → far ≡ min w (left + 1) → get_or bytes (row - wide + left - far) 0 ≡ back (row_at bytes (row - whole)) w left
    place w short = rw (is, short) (shifted bytes (row - whole) pad w left (left + 1) (omega (arith, low)) blank (λ _. omega arith) (omega (arith, some)))

    -- how many pans the rest takes with the first pan
    with_first :
        (u v : ℕ) {one both alone more with : ℕ} → one ≡ min u (left + 1) → both ≡ min (u + v) (left + 1) →
        alone ≡ get_or bytes (row - wide + left - one) 0 → alone ≤ 255 → more ≡ get_or bytes (row - wide + left - both) 0 →
        with ≡ min alone (more + 1) → with ≡ back (joined (row_at bytes (row - whole)) v) u left
    with_first u v {alone = alone} {more} {with} first second a byte m e =
        capped ∙ rw (a, m, place u first, place (u + v) second) (back_joined (row_at bytes (row - whole)) u v left)
      where
        capped : with ≡ min alone (min (more + 1) 255)
        capped = omega (arith, e, byte)

pub returns-then-opens-clause-first : goal.returns-then-opens-clause-first
returns-then-opens-clause-first c =
    let r = c.requires in
    rw (
      c.from-whole.ensures,
      with_first c.args.self.bytes.now c.args.row _ c.args.self.shape.pad c.args.left c.wide.ensures r.row c.args.self.shape.long r.blank c.args.first c.args.second c.min.ensures
          c.min-3.ensures c.from-alone.ensures (omega arith) c.from-both.ensures c.min-with.ensures,
    ) refl

pub returns-then-opens-clause-second : goal.returns-then-opens-clause-second
returns-then-opens-clause-second c =
    let r = c.requires in
    let with =
    with_first c.args.self.bytes.now c.args.row _ c.args.self.shape.pad c.args.left c.wide.ensures r.row c.args.self.shape.long r.blank c.args.first c.args.second c.min.ensures
    c.min-3.ensures c.from-alone.ensures (omega arith) c.from-both.ensures c.min-with.ensures in
    rw (
      lt-ltb _ _ c.if-opens.true,
      c.from-both.ensures,
      place c.args.self.bytes.now c.args.row _ c.args.self.shape.pad c.args.left c.wide.ensures r.row c.args.self.shape.long r.blank (c.args.first + c.args.second) c.min-3.ensures,
      with,
    ) refl

pub returns-else-opens-clause-second : goal.returns-else-opens-clause-second
returns-else-opens-clause-second c =
    let r = c.requires in
    rw (
      le-ltb _ _ c.if-opens.false,
      c.from-whole.ensures,
      c.from-other.ensures,
      place c.args.self.bytes.now c.args.row _ c.args.self.shape.pad c.args.left c.wide.ensures r.row c.args.self.shape.long r.blank c.args.second c.min-2.ensures,
    ) refl
