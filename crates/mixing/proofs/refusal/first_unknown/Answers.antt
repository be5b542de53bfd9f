-- What is left of the proof of the first pan of a kind that the rule does not have.
use Rattle.std.proofs.Common.{arith, ◌+◌, ◌-◌, ◌<◌, ◌≤◌, sym, ap, ◌∙◌, rules, Some, None}
use borrow.Author.Tests.{tests}
use Rattle.std.proofs.lemmas.Iterator.{YieldsList-from_slice, IsFirst-from_position}
use Rattle.packing.proofs.Refused.{first_above_by}
use Rattle.mixing.proofs.refusal.first_unknown.Goals as goal

pub returns-in_err-place : goal.returns-in_err-place
returns-in_err-place c =
    let h = IsFirst-from_position _ _ c.position.result (λ x. c.args.many ≤ x) (λ x. x < c.args.many) c.position.ensures.ran (YieldsList-from_slice c.args.kinds.now cc) (λ x q k. search (rules, tests)) (λ x q k. search (rules, tests)) in
    let g = rw c.in_err-place.was at h in
    c.from_residual.ensures ∙ sym (first_above_by (c.args.many - 1) 0 c.args.kinds.now None (λ k d l u. omega (arith, g k d l u, c.requires)))

pub returns : goal.returns
returns c =
    let h = IsFirst-from_position _ _ c.position.result (λ x. c.args.many ≤ x) (λ x. x < c.args.many) c.position.ensures.ran (YieldsList-from_slice c.args.kinds.now cc) (λ x q k. search (rules, tests)) (λ x q k. search (rules, tests)) in
    let g = rw c.in_ok-place.was at h in
    ap Some {y = 0 + c.in_ok-place.place} (omega arith)
    ∙ sym (first_above_by (c.args.many - 1) 0 c.args.kinds.now (Some c.in_ok-place.place) (g.0, λ d. omega (arith, g.1 d, c.requires), λ k d l u. omega (arith, g.2 k d l u, c.requires)))
