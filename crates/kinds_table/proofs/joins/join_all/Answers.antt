-- What is left of the proof that all rows but the last are joined.
use Rattle.std.proofs.Common.{◌≡◌, ℕ, ◌+◌, ◌-◌, ◌*◌, ◌<◌, ◌≤◌, ◌≢◌, length, get_or, set, take, drop, ap, ◌∙◌, mul-add, mul-one, rules, arith}
use Rattle.std.proofs.lemmas.List.{get_or-set_same, get_or-set_other, length-set}
use Rattle.kinds_table.specs.Costs.{never}
use Rattle.kinds_table.proofs.Filling.{area_end}
use Rattle.kinds_table.proofs.Together.{together_none, together_first, together_next, part_long, part_at, part_capped}
use Rattle.kinds_table.proofs.joins.join_all.Goals as goal
use Rattle.kinds_table.proofs.joins.join_all.Goals.{then-kind-eq0, else-kind-eq0}

pub loop-kind-init : goal.loop-kind-init
loop-kind-init c = λ h.
    together_none c.args.plan h c.args.rows.now (set c.fill.new.self 0 0) (omega (arith, length-set c.fill.new.self 0 0, c.fill.ensures.len, area_end c.args.plan.wide 0 c.args.plan.kinds h.present, c.requires.room))
    (get_or-set_same c.fill.new.self 0 0 0 (omega (arith, c.fill.ensures.len, area_end c.args.plan.wide 0 c.args.plan.kinds h.present, c.requires.room, h.wide)))
    (λ j some low. let ne : j ≢ 0 = omega arith in get_or-set_other c.fill.new.self 0 j 0 0 ne ∙ filled j (omega (arith, low, length-set c.fill.new.self 0 0)))
  where
    filled : (j : ℕ) → j < length c.fill.new.self → get_or c.fill.new.self j 0 ≡ never
    filled j l = search rules

pub copy-requires-clause-blank : goal.copy-requires-clause-blank
copy-requires-clause-blank c x low =
    let p = c.requires.laid in
    let h = c.loop-kind.invariant p in
    let e : c.args.plan.wide * (c.loop-kind.kind + 1) ≡ c.args.plan.wide = rw c.if-kind-eq0.true (omega arith) in
    h.blank (c.args.plan.wide + x) (omega arith)
    (omega (arith, p.wide, area_end c.args.plan.wide 1 c.args.plan.kinds (omega (arith, c.loop-kind-test.true, c.if-kind-eq0.true)), c.requires.room, c.loop-kind.auto.sums, length-set c.fill.new.self 0 0, c.fill.ensures.len))

pub loop-kind-preserved : goal.loop-kind-preserved
loop-kind-preserved c = λ h.
    let rows = c.args.rows.now in
    let k = c.loop-kind.kind in
    let p = c.args.plan in
    let s = c.row.result + get_or p.least k 0 in
    let n = c.row-in-loop-kind.result + get_or p.most k 0 + 1 - (c.row.result + get_or p.least k 0) in
    let row = take n (drop s rows) in
    let inside : s + n ≤ length rows = omega (arith, c.row.ensures, c.row-in-loop-kind.ensures, h.some k, h.top k, h.wide, area_end p.wide k p.kinds (omega (arith, c.loop-kind-test.true)), c.requires.room) in
    let long : length row ≡ get_or p.most k 0 - get_or p.least k 0 + 1 = part_long rows s n inside ∙ omega (arith, c.row.ensures, c.row-in-loop-kind.ensures, h.some k) in
    let own : (v : ℕ) → v < length row → get_or row v 0 ≡ get_or rows (p.wide * k + 16 + get_or p.least k 0 + v) 0 = λ v l. part_at rows s n v (omega (arith, part_long rows s n inside)) ∙ ap (λ (i : ℕ). get_or rows (i + get_or p.least k 0 + v) 0) c.row.ensures in
    let next : p.wide * k + p.wide ≡ p.wide * (k + 1) = omega (arith, mul-add p.wide k 1, mul-one p.wide) in
    elim c.if-kind-eq0.branch [
      | then-kind-eq0 w ↦ rw w.sums-is (together_first p h rows k row c.loop-kind.sums w.copy.new.sums w.if-kind-eq0.true (omega (arith, c.loop-kind-test.true)) long own (part_capped rows s n c.requires.capped) (c.loop-kind.invariant h) w.copy.auto.sums w.copy.ensures.same w.copy.ensures.made)
      | else-kind-eq0 w ↦ rw w.sums-is (together_next p h rows k row c.loop-kind.sums w.join.new.sums (omega (arith, c.loop-kind-test.true)) long own (c.loop-kind.invariant h) w.join.auto.sums w.join.ensures.capped (rw next at w.join.ensures.same) (rw next at w.join.ensures.made))
    ]

pub returns-clause-joined : goal.returns-clause-joined
returns-clause-joined c = λ o t.
    let h = c.loop-kind.invariant c.requires.laid in
    let e : c.loop-kind.kind ≡ c.args.plan.kinds - 1 = omega (arith, c.loop-kind-test.false, c.loop-kind.auto.kind-end) in
    rw e at (h.joined o t)

pub join-requires-clause-blank : goal.join-requires-clause-blank
join-requires-clause-blank c x low =
    let p = c.requires.laid in
    let h = c.loop-kind.invariant p in
    let w = c.args.plan.wide in
    let k = c.loop-kind.kind in
    let next : w * (k + 1) ≡ w * k + w = omega (arith, mul-add w k 1, mul-one w) in
    h.blank (w * k + w + x) (omega (arith, next))
    (omega (arith, next, p.wide, area_end w (k + 1) c.args.plan.kinds (omega (arith, c.loop-kind-test.true)), c.requires.room, c.loop-kind.auto.sums, length-set c.fill.new.self 0 0, c.fill.ensures.len))

pub join-requires-clause-capped : goal.join-requires-clause-capped
join-requires-clause-capped c = (c.loop-kind.invariant c.requires.laid).capped

pub returns-clause-capped : goal.returns-clause-capped
returns-clause-capped c = (c.loop-kind.invariant c.requires.laid).capped
