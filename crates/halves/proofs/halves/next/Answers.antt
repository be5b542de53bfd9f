-- What is left of the proof of the next choice.
use Rattle.halves.proofs.Asking.{asked_few, asked_low, asked_apart, next_is}
use Rattle.halves.proofs.halves.next.Goals as goal

pub first_place-requires : goal.first_place-requires
first_place-requires c =
    let p = c.args.pans in
    record {
      few = asked_few _ _ _ p.few p.paired p.light c.requires.filled;
      low = asked_low _ _ _ p.few p.paired p.light c.requires.filled;
      apart = asked_apart _ _ _ p.few p.paired p.light c.requires.filled;
    }

pub returns : goal.returns
returns c =
    let p = c.args.pans in
    let e = c.first_place.ensures in
    next_is _ _ _ p.few p.paired p.light c.requires.filled _ _ _ c.requires.enough e.1 e.2
