-- What is left of the proof of what each kind may weigh.
use Rattle.std.proofs.Common.{◌≡◌, ℕ, ◌+◌, ◌-◌, ◌^◌, ◌<◌, ◌≤◌, min, max, length, get_or, inl, inr, sym, rules, arith}
use Rattle.std.proofs.lemmas.Bool.{cases_lt}
use Rattle.std.proofs.lemmas.List.{get_or_past}
use Rattle.choices.proofs.Made.{made_each, made_low}
use Rattle.kinds_table.specs.Plans.{shut}
use Rattle.kinds_table.proofs.plan.cut.Goals as goal

pub returns : goal.returns
returns c =
    let m = c.args.mixed in
    let vs = m.windows.now in
    let all = c.totalled-all.result in
    let f = c.from_fn.ensures.items in
    let g = c.from_fn-2.ensures.items in
    record {
      least = λ k l. rw (sym c.totalled-all.ensures.most)
          (made_each f (λ (k w : ℕ). k < length vs → w ≡ max (get_or vs k shut).least (m.ring.rule.target - (all.most - (get_or vs k shut).most))) (λ x r q called. search rules) k 0 (omega (arith, m.few)) l);
      most = λ k l. rw (sym c.totalled-all.ensures.least)
          (made_each g (λ (k w : ℕ). k < length vs → w ≡ min (get_or vs k shut).most (m.ring.rule.target + m.ring.rule.above - (all.least - (get_or vs k shut).least))) (λ x r q called. search rules) k 0 (omega (arith, m.few)) l);
      no_least = λ k l. elim (cases_lt k 4) [ inl b ↦ made_each f (λ (k w : ℕ). length vs ≤ k → w ≡ 0) (λ x r q called. search rules) k 0 b l | inr b ↦ get_or_past c.from_fn.result k 0 (omega (arith, f.long)) ];
      no_most = λ k l. elim (cases_lt k 4) [ inl b ↦ made_each g (λ (k w : ℕ). length vs ≤ k → w ≡ 0) (λ x r q called. search rules) k 0 b l | inr b ↦ get_or_past c.from_fn-2.result k 0 (omega (arith, g.long)) ];
      small = made_low f (2 ^ 32) (λ x r q called. search rules);
    }
