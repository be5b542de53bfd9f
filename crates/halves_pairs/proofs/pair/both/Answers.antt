-- What is left of the proof that the entries are those of both parts.
use Rattle.std.proofs.Common.{◌≡◌, ℕ, ◌+◌, ◌-◌, ◌^◌, ◌<◌, length, refl, ap, ◌∙◌, arith}
use Rattle.std.proofs.lemmas.List.{length-set, get_or-set_same}
use Rattle.std.proofs.lemmas.Nat.{pow_pos}
use Rattle.halves_growth.proofs.ByPan.{from_last, from_step, from_room, from_sorted, from_first}
use Rattle.halves_pairs.proofs.pair.both.Goals as goal

pub loop-k-init : goal.loop-k-init
loop-k-init c =
    let f = c.args.front in
    let b = c.args.back in
    let n = length f.weights.now in
    let some : 0 < 2 ^ n = pow_pos n in (
      from_last n c.args.to f c.requires.few n _ refl
          (get_or-set_same c.args.front_room.now 0 _ 0 (omega (arith, c.requires.front_room)) ∙ c.all_shut.ensures),
      from_last 0 c.args.to b (omega (arith, b.few)) n _ c.requires.same
          (get_or-set_same c.args.back_room.now 0 _ 0 (omega (arith, c.requires.back_room)) ∙ c.all_shut-2.ensures),
    )

pub grow_both-sizes-requires : goal.grow_both-sizes-requires
grow_both-sizes-requires c =
    let f = c.args.front in
    let b = c.args.back in
    let n = length f.weights.now in
    let h = c.loop-k.invariant in
    let same : 2 ^ length b.weights.now ≡ 2 ^ n = ap (λ (m : ℕ). 2 ^ m) c.requires.same in
    record {
      front_room = omega (arith, c.requires.front_room, simp length-set at c.loop-k.auto.front_room, from_room n c.args.to f c.requires.few c.loop-k.k _ _ c.loop-k-test.true (omega arith) h.0);
      back_room = omega (arith, c.requires.back_room, simp length-set at c.loop-k.auto.back_room, from_room 0 c.args.to b (omega (arith, b.few)) c.loop-k.k _ _ c.loop-k-test.true (omega (arith, c.requires.same)) h.1);
      front_sorted = from_sorted n c.args.to f c.requires.few c.loop-k.k _ _ h.0;
      back_sorted = from_sorted 0 c.args.to b (omega (arith, b.few)) c.loop-k.k _ _ h.1;
    }

pub loop-k-preserved : goal.loop-k-preserved
loop-k-preserved c =
    let f = c.args.front in
    let b = c.args.back in
    let n = length f.weights.now in
    let h = c.loop-k.invariant in
    let k = c.loop-k.k in
    let e : 2 ^ (0 + (length b.weights.now - 1 - (k - 1))) ≡ 2 ^ (n - 1 - (k - 1)) = ap (λ (m : ℕ). 2 ^ m) (omega (arith, c.requires.same)) in (
      from_step n c.args.to f c.requires.few k c.loop-k-test.true (omega arith) _ _ _ _ _ _ c.of-first.ensures.way c.of-first.ensures.gain h.0 c.grow_both-sizes.ensures.front,
      from_step 0 c.args.to b (omega (arith, b.few)) k c.loop-k-test.true (omega (arith, c.requires.same)) _ _ _ _ _ _ c.of-second.ensures.way (omega (arith, e, c.of-second.ensures.gain)) h.1 c.grow_both-sizes.ensures.back,
    )

pub returns : goal.returns
returns c =
    let f = c.args.front in
    let b = c.args.back in
    record {
      front = from_first (length f.weights.now) c.args.to f c.requires.few c.loop-k.k _ _ c.loop-k-test.false c.loop-k.invariant.0;
      back = from_first 0 c.args.to b (omega (arith, b.few)) c.loop-k.k _ _ c.loop-k-test.false c.loop-k.invariant.1;
    }
