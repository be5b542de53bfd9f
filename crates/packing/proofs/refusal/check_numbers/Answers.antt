-- What is left of the proof of what is wrong with weights and ages.
use Rattle.std.proofs.Common.{◌≡◌, ◌+◌, length, sym, arith}
use Rattle.packing.proofs.Refused.{first_above_append}
use Rattle.packing.proofs.refusal.check_numbers.Goals as goal

pub returns-in-Some : goal.returns-in-Some
returns-in-Some c = rw (first_above_append 1000000 0 c.args.weights.now c.args.ages.now, sym c.in-Some.ensures)

pub returns-in-Some-first_above : goal.returns-in-Some-first_above
returns-in-Some-first_above c =
    let n = length c.args.weights.now in
    let e : 0 + n ≡ n = omega arith in
    rw (first_above_append 1000000 0 c.args.weights.now c.args.ages.now, sym c.in_default.ensures, e, sym c.in-Some-first_above.ensures)

pub returns-in-None : goal.returns-in-None
returns-in-None c =
    let n = length c.args.weights.now in
    let e : 0 + n ≡ n = omega arith in
    rw (first_above_append 1000000 0 c.args.weights.now c.args.ages.now, sym c.in_default.ensures, e, sym c.in-None.ensures)
