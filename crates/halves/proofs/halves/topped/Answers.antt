-- What is left of the proof of the entries before the halves.
use Rattle.std.proofs.Common.{◌≡◌, ℕ, ◌+◌, ◌-◌, length, sym, ap, arith}
use Rattle.std.proofs.lemmas.List.{get_or_append_left}
use Rattle.halves_growth.proofs.Fronts.{rises_front}
use Rattle.halves.specs.Entries.{before}
use Rattle.halves.proofs.Cutting.{long_part, few_part, half_from, part_made}
use Rattle.halves.proofs.RoomParts.{few_tops, half_same}
use Rattle.halves.proofs.halves.topped.Goals as goal

pub part-made-requires-clause-room : goal.part-made-requires-clause-room
part-made-requires-clause-room c =
    let p = c.args.pans in
    let h = c.args.half in
    let s = c.split_at.ensures in
    rw (long_part p.weights.now p.ways.now 0 (length p.weights.now - (h + h)) _ _ s.front_weights s.front_ways (omega (arith, c.requires))) (omega (arith, few_tops (length p.weights.now) h c.requires))

pub slice_bounds-thin-end : goal.slice_bounds-thin-end
slice_bounds-thin-end c =
    let p = c.args.pans in
    let h = c.args.half in
    let s = c.split_at.ensures in
    omega (arith, few_part p.weights.now p.ways.now 0 (length p.weights.now - (h + h)) _ _ s.front_weights s.front_ways (omega (arith, c.requires)) _ _ _ _ _ c.part-made.ensures, few_tops (length p.weights.now) h c.requires)

pub thin-requires : goal.thin-requires
thin-requires c = rises_front _ _ c.part-made.ensures.rises

pub returns-clause-tops : goal.returns-clause-tops
returns-clause-tops c =
    let p = c.args.pans in
    let n = length p.weights.now in
    let h = c.args.half in
    let k = n - (h + h) in
    let s = c.split_at.ensures in
    let b : k ≡ before n = ap (λ (m : ℕ). n - (m + m)) c.requires in
    let room = few_part p.weights.now p.ways.now 0 k _ _ s.front_weights s.front_ways (omega (arith, c.requires)) _ _ _ _ _ c.part-made.ensures in
    let part = part_made p.weights.now p.ways.now 0 k _ _ s.front_weights s.front_ways (omega (arith, c.requires)) (h + h) _ _ _ (omega (arith, c.requires)) (omega (arith, room, few_tops n h c.requires)) c.part-made.ensures in
    rw (sym b) (half_same _ _ _ _ _ _ _ _ (half_from c.args.bounds _ _ 0 k _ _ _ _ (omega (arith, c.requires)) p.few p.paired part c.thin.ensures)
    (λ q l. get_or_append_left c.thin.new.es _ 0 q (omega (arith, c.thin.ensures.fewer, c.thin.auto.es))))
