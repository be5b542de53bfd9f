-- What is left of the proof of the number that is answered.
use Rattle.std.proofs.Common.{arith}
use Rattle.choices.proofs.Numbers.{number_room, number_more}
use Rattle.choices.proofs.choice.number.Goals as goal

pub overflow_mul-made : goal.overflow_mul-made
overflow_mul-made c = omega (arith, number_room c.loop-place.place c.args.choice (omega arith))

pub overflow_add-made : goal.overflow_add-made
overflow_add-made c = omega (arith, number_room c.loop-place.place c.args.choice (omega arith))

pub loop-place-preserved : goal.loop-place-preserved
loop-place-preserved c = omega (arith, number_more c.loop-place.place c.args.choice)
