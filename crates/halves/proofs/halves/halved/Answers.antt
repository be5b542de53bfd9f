-- What is left of the proof of the entries of both halves.
use Rattle.std.proofs.Common.{◌≡◌, ℕ, ◌+◌, ◌-◌, ◌^◌, length, take, ap, ◌∙◌, arith}
use Rattle.halves.specs.Entries.{before, half_of}
use Rattle.halves.proofs.Cutting.{long_part, few_part, part_made, last_part}
use Rattle.halves.proofs.Joining.{half_low}
use Rattle.halves.proofs.halves.halved.Goals as goal

pub kept-requires : goal.kept-requires
kept-requires c =
    let p = c.args.pans in
    let ws = p.weights.now in
    let vs = p.ways.now in
    let h = c.args.half in
    let k = length ws - (h + h) in
    let s = c.split_at.ensures in
    let t = c.split_at-2.ensures in
    let ws-is = t.front_weights ∙ ap (take h) s.back_weights in
    let vs-is = t.front_ways ∙ ap (take h) s.back_ways in
    let long = long_part ws vs k h _ _ ws-is vs-is (omega (arith, c.requires.half)) in
    let few = few_part ws vs k h _ _ ws-is vs-is (omega (arith, c.requires.half)) _ _ _ _ _ c.both-made.ensures.front in
    part_made ws vs k h _ _ ws-is vs-is (omega (arith, c.requires.half)) _ _ _ _ (omega (arith, long, c.requires.half)) (omega (arith, few, c.entries.ensures, c.split_at_mut-front_room.ensures.front_len, c.both-made.auto.front_room)) c.both-made.ensures.front

pub kept-requires-2 : goal.kept-requires-2
kept-requires-2 c =
    let p = c.args.pans in
    let ws = p.weights.now in
    let vs = p.ways.now in
    let h = c.args.half in
    let k = length ws - (h + h) in
    let s = c.split_at.ensures in
    let t = c.split_at-2.ensures in
    let ws-is = last_part k h ws _ _ (omega (arith, c.requires.half)) s.back_weights t.back_weights in
    let vs-is = last_part k h vs _ _ (omega (arith, c.requires.half, p.paired)) s.back_ways t.back_ways in
    let few = few_part ws vs (k + h) h _ _ ws-is vs-is (omega (arith, c.requires.half)) _ _ _ _ _ c.both-made.ensures.back in
    let e : 2 ^ h ≡ 2 ^ half_of (length ws) = ap (λ (m : ℕ). 2 ^ m) c.requires.half in
    part_made ws vs (k + h) h _ _ ws-is vs-is (omega (arith, c.requires.half)) 0 _ _ _ (omega (arith, c.requires.half)) (omega (arith, few, e, c.requires.room, c.entries.ensures, c.split_at_mut-front_room.ensures.back_len, c.both-made.auto.back_room)) c.both-made.ensures.back

pub invariant_of-result : goal.invariant_of-result
invariant_of-result c =
    let p = c.args.pans in
    record {
      front_rises = c.kept.ensures.rises;
      back_rises = c.kept-2.ensures.rises;
      front_low = half_low c.args.bounds p.weights.now p.ways.now p.few p.paired p.light _ _ _ _ (omega (arith, c.requires.half)) c.kept.ensures;
      back_low = half_low c.args.bounds p.weights.now p.ways.now p.few p.paired p.light _ _ _ _ (omega (arith, c.requires.half)) c.kept-2.ensures;
    }

pub returns : goal.returns
returns c =
    let n = length c.args.pans.weights.now in
    let b : n - (c.args.half + c.args.half) ≡ before n = ap (λ (m : ℕ). n - (m + m)) c.requires.half in
    record { front = rw b at c.kept.ensures; back = rw b at c.kept-2.ensures }
