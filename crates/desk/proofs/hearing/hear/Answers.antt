-- The command that the line is read as is obeyed.
use Rattle.std.proofs.Common.{inr}
use Rattle.desk.proofs.hearing.hear.Goals as goal

pub returns-in-Ok-Some : goal.returns-in-Ok-Some
returns-in-Ok-Some c = inr (inr (record { command = c.in-Ok-Some.command; says = rw c.in-Ok-Some.field-0-is at c.in-Ok-Some.ensures; obeys = c.obey.ensures }))
