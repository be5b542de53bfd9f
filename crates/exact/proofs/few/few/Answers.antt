-- What is left of the proof of the choice of the fewest pans.
use Rattle.std.proofs.Common.{arith}
use Rattle.exact.proofs.Choosing.{chosen_zero, fewer_one, fewer_more, chosen_some, chosen_none, chosen_four}
use Rattle.exact.proofs.few.few.Goals as goal

pub returns-then-weight-eq0 : goal.returns-then-weight-eq0
returns-then-weight-eq0 c = chosen_zero c.if-weight-eq0.true

pub returns-then-most-eq0 : goal.returns-then-most-eq0
returns-then-most-eq0 c = chosen_none (fewer_one (omega arith)) (omega arith)

pub returns-in-Some : goal.returns-in-Some
returns-in-Some c = chosen_some (fewer_one (omega arith)) (omega arith) c.in-Some.ensures

pub returns-then-most-eq1 : goal.returns-then-most-eq1
returns-then-most-eq1 c = chosen_none (fewer_more (fewer_one (omega arith)) c.in_default.ensures) (omega arith)

pub returns-in-Some-two : goal.returns-in-Some-two
returns-in-Some-two c = chosen_some (fewer_more (fewer_one (omega arith)) c.in_default.ensures) (omega arith) c.in-Some-two.ensures

pub returns-then-most-eq2 : goal.returns-then-most-eq2
returns-then-most-eq2 c = chosen_none (fewer_more (fewer_more (fewer_one (omega arith)) c.in_default.ensures) c.in_default-two.ensures) (omega arith)

pub returns-in-Some-three : goal.returns-in-Some-three
returns-in-Some-three c =
    chosen_some (fewer_more (fewer_more (fewer_one (omega arith)) c.in_default.ensures) c.in_default-two.ensures) (omega arith) c.in-Some-three.ensures

pub returns-then-most-eq3 : goal.returns-then-most-eq3
returns-then-most-eq3 c =
    chosen_none (fewer_more (fewer_more (fewer_more (fewer_one (omega arith)) c.in_default.ensures) c.in_default-two.ensures) c.in_default-three.ensures) (omega arith)

pub returns : goal.returns
returns c =
    chosen_four (fewer_more (fewer_more (fewer_more (fewer_one (omega arith)) c.in_default.ensures) c.in_default-two.ensures) c.in_default-three.ensures) (omega arith) _
    c.four.ensures
