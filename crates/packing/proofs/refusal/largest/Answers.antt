-- What is left of the proof of the largest number.
use Rattle.std.proofs.Common.{length, ⊎_elim, arith}
use Rattle.std.proofs.lemmas.Bool.{cases_lt}
use Rattle.std.proofs.lemmas.List.{get_or_past}
use Rattle.packing.proofs.refusal.largest.Goals as goal

pub loop-x-init : goal.loop-x-init
loop-x-init c = (λ i l. absurd (omega arith), (length c.args.numbers.now, get_or_past c.args.numbers.now _ 0 (omega arith)))

pub returns : goal.returns
returns c =
    let xs = c.args.numbers.now in
    record {
      most = λ i. ⊎_elim (λ l. c.loop-x.invariant.0 i (omega arith)) (λ l. omega (arith, get_or_past xs i 0 l)) (cases_lt i (length xs));
      among = c.loop-x.invariant.1;
    }
