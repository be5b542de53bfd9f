-- What is left of the proof of the first number above the limit.
use Rattle.std.proofs.Common.{arith, ◌<◌, ◌≤◌, sym, ◌∙◌, rules, Some, None}
use borrow.Author.Tests.{tests}
use Rattle.std.proofs.lemmas.Iterator.{YieldsList-from_slice, IsFirst-from_position}
use Rattle.packing.proofs.Refused.{first_above_by, none_below}
use Rattle.packing.proofs.refusal.first_of_part.Goals as goal

pub returns-then-largest-le-LIMIT : goal.returns-then-largest-le-LIMIT
returns-then-largest-le-LIMIT c = sym (none_below 1000000 c.args.from c.args.numbers.now (λ i. omega (arith, c.largest.ensures.most i, c.if-largest-le-LIMIT.true)))

pub returns-in_err-place : goal.returns-in_err-place
returns-in_err-place c =
    let h = IsFirst-from_position _ _ c.position.result (λ x. 1000000 < x) (λ x. x ≤ 1000000) c.position.ensures.ran (YieldsList-from_slice c.args.numbers.now cc) (λ x q k. search (rules, tests)) (λ x q k. search (rules, tests)) in
    c.from_residual.ensures ∙ sym (first_above_by 1000000 c.args.from c.args.numbers.now None (rw c.in_err-place.was at h))

pub returns : goal.returns
returns c =
    let h = IsFirst-from_position _ _ c.position.result (λ x. 1000000 < x) (λ x. x ≤ 1000000) c.position.ensures.ran (YieldsList-from_slice c.args.numbers.now cc) (λ x q k. search (rules, tests)) (λ x q k. search (rules, tests)) in
    sym (first_above_by 1000000 c.args.from c.args.numbers.now (Some c.in_ok-place.place) (rw c.in_ok-place.was at h))
