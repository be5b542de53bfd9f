-- What is left of the proof that both parts grow by one pan.
use Rattle.std.proofs.Common.{arith}
use Rattle.halves_growth.proofs.Growing.{grown_both}
use Rattle.halves_growth.proofs.Fronts.{rises_front, opening_front}
use Rattle.halves_pairs.proofs.pair.grow_both.Goals as goal

pub openable-front_added-requires : goal.openable-front_added-requires
openable-front_added-requires c = rises_front _ _ c.requires.front_sorted.rises

pub openable-back_added-requires : goal.openable-back_added-requires
openable-back_added-requires c = rises_front _ _ c.requires.back_sorted.rises

pub returns-then-second : goal.returns-then-second
returns-then-second c =
    let s = c.args.sizes in
    let f = opening_front c.args.to c.args.first.way c.args.first.gain _ s.front _ (omega (arith, c.requires.front_room)) c.openable-front_added.ensures in
    let b = opening_front c.args.to c.args.second.way c.args.second.gain _ s.back _ (omega (arith, c.requires.back_room)) c.openable-back_added.ensures in
    record {
      front = grown_both _ _ _ _ _ _ _ f c.if-first.true c.merge_both.ensures.front;
      back = grown_both _ _ _ _ _ _ _ b c.if-second.true c.merge_both.ensures.back;
    }
