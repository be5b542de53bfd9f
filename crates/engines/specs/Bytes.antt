-- What the table by weight turns a ring away for where it has too few bytes. Assumes nothing: this is a definition.
--   bytes_lacked   refusal 5, with how many bytes are asked for the ring's table
use Rattle.std.specs.Prelude.{ℕ, Option}
use Rattle.answers.specs.Refusals.{lacked}
use Rattle.answers.specs.declared.refusal.Refusal.{Refusal}
use Rattle.choices.specs.Stand.{Stand}
use Rattle.choices.specs.declared.rule.Rule.{Rule}
use Rattle.table.specs.Pans.{table_bytes}

abbrev pub bytes_lacked : Rule → Stand → (bytes : ℕ) → Option Refusal
bytes_lacked r s = lacked (table_bytes r s.weights s.ages)
