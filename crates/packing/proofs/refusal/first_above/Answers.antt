-- The first number above the limit stands in the part that is looked at, or behind it.
use Rattle.std.proofs.Common.{◌≡◌, ◌+◌, None, length, sym, ap, ◌∙◌, arith}
use Rattle.answers.specs.Refusals.{or_else}
use Rattle.packing.specs.Refusals.{first_above}
use Rattle.packing.proofs.Refused.{first_above_parts}
use Rattle.packing.proofs.refusal.first_above.Goals as goal

pub loop-rest-preserved : goal.loop-rest-preserved
loop-rest-preserved c =
    let cut = c.split_at.ensures in
    let behind = first_above 1000000 (c.loop-rest.at + length c.split_at.result.0.now) c.split_at.result.1.now in
    let none : first_above 1000000 c.loop-rest.at c.split_at.result.0.now ≡ None = sym c.first_of_part.ensures ∙ c.in_default.is in
    (c.loop-rest.invariant.0 ∙ first_above_parts _ _ _ _ _ _ cut.front cut.back ∙ ap (λ o. or_else o behind) none, omega (arith, c.loop-rest.invariant.1, cut.front_len, cut.back_len))

pub returns-in-Some : goal.returns-in-Some
returns-in-Some c =
    let cut = c.split_at.ensures in
    let behind = first_above 1000000 (c.loop-rest.at + length c.split_at.result.0.now) c.split_at.result.1.now in
    sym (c.loop-rest.invariant.0 ∙ first_above_parts _ _ _ _ _ _ cut.front cut.back ∙ ap (λ o. or_else o behind) (sym c.first_of_part.ensures ∙ c.in-Some.is))
