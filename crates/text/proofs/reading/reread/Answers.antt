-- A command is written in one way.
use Rattle.std.proofs.Common.{Ok, ◌∙◌, subst}
use Rattle.text.specs.Reading.{Reads}
use Rattle.text.proofs.Lines.{same_said}
use Rattle.text.proofs.reading.reread.Goals as goal

pub returns : goal.returns
returns c = same_said c.as_bytes.result.now c.args.command.now c.unwrap.result (c.as_bytes.ensures.value ∙ c.in_ok-line.ensures.ok) (rw c.as_slice.ensures at c.held_whole.ensures) (subst (λ l. Reads c.as_bytes.result.now (Ok l)) c.unwrap.ensures c.in_ok-read.ensures)
