-- What is left of the proof that the narrowed ring answers for the whole one.
use Rattle.narrowed.proofs.Narrowing.{found_narrowed}
use Rattle.narrowed.proofs.narrowed.Narrowed.ring.Goals as goal

pub returns-clause-answers : goal.returns-clause-answers
returns-clause-answers c r ws as' ts us o n f = found_narrowed r ws as' ts us o n.paired n.forced (rw (n.rule, n.weights, n.marks) at f)
