-- What is left of the proof that the tallies of all choices of the pans are made.
use Rattle.std.proofs.Common.{◌≡◌, ℕ, ◌+◌, ◌*◌, ◌/◌, ◌%◌, ◌^◌, ◌<◌, length, refl, ◌∙◌, length-set, arith}
use Rattle.std.proofs.lemmas.Nat.{one_shl}
use Rattle.choices.specs.declared.ring.Ring.{Ring}
use Rattle.choices.specs.declared.tally.Tally.{Tally}
use Rattle.search.proofs.Groups.{TallyOf, fewer, sum_fits}
use Rattle.search.proofs.Filling.{blank, there, doubled, shut, filled}
use Rattle.search.proofs.tallies.fill.Goals as goal

-- half of a group's choices, as it is worked out
halves : (p : ℕ) → (1 * 2 ^ (p % 6)) % 18446744073709551616 ≡ 2 ^ (p % 6)
halves p = one_shl (p % 6) 64 (omega arith)

-- the tally of one pan
single : (r : Ring) (p : ℕ) (t : Tally) → p < 24 → TallyOf r ((1 * 2 ^ p) % 4294967296) t → TallyOf r (2 ^ p) t
single r p t few h = rw (one_shl p 32 (omega arith)) at h

pub loop-place-init : goal.loop-place-init
loop-place-init c = (refl, blank c.args.ring c.args.groups.now c.requires.blank)

pub slice_copy_out-and : goal.slice_copy_out-and
slice_copy_out-and c =
    let p = c.loop-place.place in
    let few = c.args.ring.ordered.few in
    let lt : c.loop-x.x < 2 ^ (p % 6) = omega (arith, halves p, c.loop-x-test.true) in
    omega (arith, c.loop-x.invariant.0, c.loop-place.invariant.0, there (length c.args.ring.weights.now) p c.loop-x.x (length c.args.groups.now) c.loop-place-test.true few lt c.requires.one c.requires.all)

pub bounds-groups-start : goal.bounds-groups-start
bounds-groups-start c =
    let p = c.loop-place.place in
    let few = c.args.ring.ordered.few in
    let lt : c.loop-x.x < 2 ^ (p % 6) = omega (arith, halves p, c.loop-x-test.true) in
    omega (arith, halves p, c.loop-x.invariant.0, c.loop-place.invariant.0, there (length c.args.ring.weights.now) p c.loop-x.x (length c.args.groups.now) c.loop-place-test.true few lt c.requires.one c.requires.all)

pub and-requires : goal.and-requires
and-requires c =
    let p = c.loop-place.place in
    let few : p < 24 = omega (arith, c.loop-place-test.true, c.args.ring.ordered.few) in
    let lt : c.loop-x.x < 2 ^ (p % 6) = omega (arith, halves p, c.loop-x-test.true) in
    sum_fits c.args.ring (2 ^ p) (c.loop-x.x * 2 ^ (6 * (p / 6))) c.look-pan.result _ (single c.args.ring p c.look-pan.result few c.look-pan.ensures) (shut c.args.ring c.loop-x.groups p c.loop-x.x (64 * (p / 6) + c.loop-x.x) few lt refl c.loop-x.invariant.1)

pub loop-x-preserved : goal.loop-x-preserved
loop-x-preserved c =
    let p = c.loop-place.place in
    let x = c.loop-x.x in
    let few : p < 24 = omega (arith, c.loop-place-test.true, c.args.ring.ordered.few) in
    let lt : x < 2 ^ (p % 6) = omega (arith, halves p, c.loop-x-test.true) in
    let to : 64 * (p / 6) + (1 * 2 ^ (p % 6)) % 18446744073709551616 + x ≡ 64 * (p / 6) + 2 ^ (p % 6) + x = omega (arith, halves p) in
    let long : 64 * (p / 6) + (1 * 2 ^ (p % 6)) % 18446744073709551616 + x < length c.loop-x.groups = omega (arith, to, c.loop-x.invariant.0, c.loop-place.invariant.0, there (length c.args.ring.weights.now) p x (length c.args.groups.now) c.loop-place-test.true c.args.ring.ordered.few lt c.requires.one c.requires.all) in (
      length-set _ _ _ ∙ c.loop-x.invariant.0,
      filled c.args.ring c.loop-x.groups p x (64 * (p / 6) + x) _ c.look-pan.result c.and.result few lt refl to long c.loop-x.invariant.1 (single c.args.ring p c.look-pan.result few c.look-pan.ensures) c.and.ensures,
    )

pub loop-place-preserved : goal.loop-place-preserved
loop-place-preserved c =
    let p = c.loop-place.place in
    let end : c.loop-x.x ≡ 2 ^ (p % 6) = omega (arith, halves p, c.loop-x-test.false, c.loop-x.auto.x-end) in (
      c.loop-x.invariant.0 ∙ c.loop-place.invariant.0,
      fewer c.args.ring (2 ^ (p + 1)) _ c.loop-x.groups (doubled p c.loop-x.x end) c.loop-x.invariant.1,
    )
