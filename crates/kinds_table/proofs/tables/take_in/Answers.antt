-- What is left of the proof that a pan is taken in.
use Rattle.std.proofs.Common.{◌≡◌, ℕ, ◌+◌, ◌-◌, ◌*◌, ◌^◌, ◌≤◌, ltb, true, false, List, length, get_or, drop, ap, ◌∙◌, arith}
use Rattle.std.proofs.lemmas.Bool.{lt-ltb}
use Rattle.std.proofs.lemmas.Bool.Decides.{nat_tests}
use Rattle.std.proofs.lemmas.List.{length-drop}
use Rattle.kinds_table.specs.Plans.{lot_of}
use Rattle.kinds_table.proofs.Filling.{tables_next}
use Rattle.kinds_table.proofs.tables.take_in.Goals as goal
use Rattle.kinds_table.proofs.tables.take_in.Goals.{then-lies-eq0, else-lies-eq0}

-- what a pan costs, by the pans behind it
gain_is : (g pan : ℕ) (ws : List ℕ) → g ≡ 2 ^ 24 - 2 ^ (length ws - 1 - pan) → g ≡ 2 ^ 24 - 2 ^ length (drop (pan + 1) ws)
gain_is g pan ws e = e ∙ ap (λ (n : ℕ). 2 ^ 24 - 2 ^ n) {y = length (drop (pan + 1) ws)} (omega (arith, length-drop (pan + 1) ws))

not_young : (a old : ℕ) → old ≤ a → ltb a old ≡ false
not_young a old l = grind (arith, nat_tests)

pub offer-requires-clause-blank : goal.offer-requires-clause-blank
offer-requires-clause-blank c j low =
    let kind = get_or c.args.mixed.kinds.now c.args.pan 0 in
    let e : c.row-row.result - 16 + j ≡ c.args.plan.wide * kind + j = omega (arith, c.row-row.ensures) in
    rw e (c.requires.tables.blank kind j (omega (arith, c.args.mixed.known c.args.pan, c.requires.kinds)) low)

pub returns-then-ring-pan : goal.returns-then-ring-pan
returns-then-ring-pan c =
    let m = c.args.mixed in
    let p = c.requires.laid in
    let kind = get_or m.kinds.now c.args.pan 0 in
    tables_next (lot_of m.ring.rule m.kinds.now m.ring.weights.now m.ring.ages.now) c.args.pan c.requires.pan m.paired m.ring.ordered.paired
    c.args.plan.most c.args.plan.kinds c.args.plan.wide c.if-lies-eq0.weight c.args.rows.now c.offer.new.room true
    (omega (arith, m.known c.args.pan, c.requires.kinds)) (λ k. omega (arith, p.wide, p.top k)) (lt-ltb _ _ c.if-ring-pan.true)
    (λ some. elim c.if-lies-eq0.branch [ then-lies-eq0 w ↦ absurd (omega (arith, w.if-lies-eq0.true)) | else-lies-eq0 w ↦ w.weight-is ])
    (λ none. elim c.if-lies-eq0.branch [ then-lies-eq0 w ↦ omega (arith, w.weight-is) | else-lies-eq0 w ↦ absurd (omega (arith, w.if-lies-eq0.false)) ])
    (rw c.row-row.ensures at c.offer.ensures.same)
    (rw (c.row-row.ensures, gain_is c.gain-gain.result c.args.pan m.ring.weights.now c.gain-gain.ensures) at c.offer.ensures.made)
    c.requires.tables

pub returns-else-ring-pan : goal.returns-else-ring-pan
returns-else-ring-pan c =
    let m = c.args.mixed in
    let p = c.requires.laid in
    let kind = get_or m.kinds.now c.args.pan 0 in
    tables_next (lot_of m.ring.rule m.kinds.now m.ring.weights.now m.ring.ages.now) c.args.pan c.requires.pan m.paired m.ring.ordered.paired
    c.args.plan.most c.args.plan.kinds c.args.plan.wide c.if-lies-eq0.weight c.args.rows.now c.force.new.room false
    (omega (arith, m.known c.args.pan, c.requires.kinds)) (λ k. omega (arith, p.wide, p.top k)) (not_young _ _ c.if-ring-pan.false)
    (λ some. elim c.if-lies-eq0.branch [ then-lies-eq0 w ↦ absurd (omega (arith, w.if-lies-eq0.true)) | else-lies-eq0 w ↦ w.weight-is ])
    (λ none. elim c.if-lies-eq0.branch [ then-lies-eq0 w ↦ omega (arith, w.weight-is) | else-lies-eq0 w ↦ absurd (omega (arith, w.if-lies-eq0.false)) ])
    (rw c.row-row.ensures at c.force.ensures.same)
    (rw (c.row-row.ensures, gain_is c.gain-gain.result c.args.pan m.ring.weights.now c.gain-gain.ensures) at c.force.ensures.made)
    c.requires.tables
