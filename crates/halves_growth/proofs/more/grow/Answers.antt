-- What is left of the proof that a part grows by one pan.
use Rattle.std.proofs.Common.{◌≡◌, length, drop, arith}
use Rattle.std.proofs.lemmas.List.{length-append, length-take-le}
use Rattle.halves_growth.proofs.Growing.{grown_both, grown_opened}
use Rattle.halves_growth.proofs.Fronts.{rises_front, opening_front, raised_front, rest_front}
use Rattle.halves_growth.proofs.more.grow.Goals as goal

pub openable-added-requires : goal.openable-added-requires
openable-added-requires c = rises_front _ _ c.requires.sorted.rises

pub returns-then-pan : goal.returns-then-pan
returns-then-pan c =
    let o = opening_front c.args.to c.args.pan.way c.args.pan.gain _ _ _ (omega (arith, c.requires.room)) c.openable-added.ensures in
    record {
      within = omega (arith, o.few, c.requires.room);
      grown = grown_both _ _ _ _ _ _ _ o c.if-pan.true c.merge.ensures.merged;
      rest = λ q l. c.merge.ensures.rest q (omega (arith, o.few));
    }

pub returns-else-pan : goal.returns-else-pan
returns-else-pan c =
    let o = opening_front c.args.to c.args.pan.way c.args.pan.gain _ _ _ (omega (arith, c.requires.room)) c.openable-added.ensures in
    let es = c.args.es.now in
    let m = c.openable-added.result in
    let long : length c.raise.new.es ≡ m = omega (arith, c.raise.auto.es, length-take-le m es (omega (arith, o.few, c.requires.room))) in
    record {
      within = omega (arith, length-append c.raise.new.es (drop m es));
      grown = grown_opened _ _ _ _ _ _ _ o c.if-pan.false c.requires.sorted.rises (raised_front _ _ _ _ (omega (arith, o.few, c.requires.room)) c.raise.auto.es c.raise.ensures);
      rest = λ q l. rest_front es c.raise.new.es m long q (omega (arith, o.few));
    }
