-- The law of marks in place of ages.
use Rattle.narrowed.proofs.Narrowing.{marks_stand_for_ages}
use Rattle.narrowed.proofs.laws.marks_stand_for_ages.Goals as goal

pub returns : goal.returns
returns c = marks_stand_for_ages
