-- What is left of the proof of the plan.
use Rattle.std.proofs.Common.{◌+◌, refl, inl, inr, arith}
use Rattle.std.proofs.lemmas.Bool.{cases_lt}
use Rattle.kinds_table.proofs.Clipping.{plans_of, none_kind, none_base}
use Rattle.kinds_table.proofs.plan.Plan.of.Goals as goal

pub returns-in_err-base : goal.returns-in_err-base
returns-in_err-base c =
    let m = c.args.mixed in
    let bad = c.in_err-base.ensures in
    rw c.from_residual.ensures (none_kind m.ring.rule m.windows.now m.kinds.now m.ring.weights.now m.ring.ages.now m.paired m.known _ _ c.cut.ensures bad.0 bad.1 bad.2)

pub returns-in_err-span : goal.returns-in_err-span
returns-in_err-span c =
    let m = c.args.mixed in
    let top = m.ring.rule.target + m.ring.rule.above in
    rw c.from_residual-in_err-span.ensures
    (elim (cases_lt top c.in_ok-base.base) [
      | inl over ↦ none_base m.ring.rule m.windows.now m.kinds.now m.ring.weights.now m.ring.ages.now m.paired m.known _ _ c.cut.ensures (omega (arith, c.in_ok-base.ensures.is))
      | inr fits ↦ absurd (c.in_err-span.ensures fits)
    ])

pub returns : goal.returns
returns c =
    let m = c.args.mixed in
    let s = c.in_ok-span.ensures in
    plans_of m.ring.rule m.windows.now m.kinds.now m.ring.weights.now m.ring.ages.now m.paired m.known m.some m.few (omega (arith, m.ring.ruled.target, m.ring.ruled.above)) _ refl (omega (arith, s))
    c.wide_for.ensures c.in_ok-base.ensures.is c.in_ok-base.ensures.some c.cut.ensures
