-- What is left of the proof of the first fitting choice from a place on.
use Rattle.std.proofs.Common.{rules, None, Some, arith}
use Rattle.std.proofs.Props.{props}
use Rattle.std.proofs.Math.Logic.{∥∥₁_elim}
use Rattle.halves_places.proofs.Rings.{length_ways}
use Rattle.halves.proofs.Answered.{first_fitting_prop, none_from_prop, first_is_next, first_none, first_some, first_low}
use Rattle.halves.proofs.Asking.{asked_few, asked_low, asked_apart}
use Rattle.halves.proofs.ring_halves.RingHalves.next_from.Goals as goal

pub first_place-requires : goal.first_place-requires
first_place-requires c =
    let ring = c.args.self.ring in
    let ws = ring.weights.now in
    let long = length_ways ring.rule.age ws ring.ages.now ring.ordered.paired in
    ∥∥₁_elim c.args.self.filled (hlevel props)
    (λ f. record {
      few = asked_few ws _ c.args.self.halves ring.ordered.few long ring.ordered.light f.filled;
      low = asked_low ws _ c.args.self.halves ring.ordered.few long ring.ordered.light f.filled;
      apart = asked_apart ws _ c.args.self.halves ring.ordered.few long ring.ordered.light f.filled;
    })

pub bag_in-requires : goal.bag_in-requires
bag_in-requires c =
    let ring = c.args.self.ring in
    ∥∥₁_elim c.args.self.filled (hlevel props)
    (λ f. first_low ring.rule ring.weights.now ring.ages.now ring.ordered.few ring.ordered.paired ring.ordered.light c.args.self.halves f c.args.from _ (search rules) _ (omega (arith, ring.ruled.target, ring.ruled.above)) c.in_ok-place.ensures)

pub returns : goal.returns
returns c =
    let ring = c.args.self.ring in
    let told =
    ∥∥₁_elim c.args.self.filled (first_fitting_prop ring.rule ring.weights.now ring.ages.now c.args.from _)
    (λ f. first_some ring.rule ring.weights.now ring.ages.now ring.ordered.few ring.ordered.paired ring.ordered.light c.args.self.halves f c.args.from _ (search rules) _ _ _ c.in_ok-place.ensures c.bag_in.ensures) in
    record { fitting = told; next = first_is_next ring.rule ring.weights.now ring.ages.now ring.ordered.few ring.ordered.paired c.args.from (Some _) told }

pub returns-in_err-place : goal.returns-in_err-place
returns-in_err-place c =
    let ring = c.args.self.ring in
    let told =
    ∥∥₁_elim c.args.self.filled (none_from_prop ring.rule ring.weights.now ring.ages.now c.args.from)
    (λ f. first_none ring.rule ring.weights.now ring.ages.now ring.ordered.few ring.ordered.paired ring.ordered.light c.args.self.halves f c.args.from _ (search rules) c.in_err-place.ensures) in
    rw c.from_residual.ensures (record { fitting = told; next = first_is_next ring.rule ring.weights.now ring.ages.now ring.ordered.few ring.ordered.paired c.args.from None told })
