-- What is answered to each line of bytes. Assumes nothing: these are definitions.
--   Quiet      a line that is passed over: nothing is said, nothing changes
--   Unread     a line that is how no command is written: it is turned away at its number, and nothing changes
--   Obeyed     a line that is how a command is written: the command is obeyed
--   Short      memory fails for the numbers, for which only a line asks that begins as a command with numbers: nothing changes
use Rattle.std.specs.Prelude.{◌≡◌, ℕ, ◌⊎◌, List, Some, None, Ok, Err, Option, Result}
use Rattle.answers.specs.declared.refusal.Refusal.TheVariants.{Line}
use Rattle.text.specs.Reading.{Begun, Passed, Says, Unwritten}
use Rattle.text.specs.declared.commands.Command.{Command}
use Rattle.text.specs.declared.faults.Fault.{Fault}
use Rattle.text.specs.declared.faults.Fault.TheVariants.{NoMemory}
use Rattle.desk.specs.declared.printed.Reply.{Reply}
use Rattle.desk.specs.Kept.{State}
use Rattle.desk.specs.Obeys.{Obeys}
use Rattle.desk.specs.Printed.{refused_at}

pub record Quiet (bs : List ℕ) (s t : State) (r : Option Reply) : Type 0 where
  pub passed : Passed bs
  pub said : r ≡ None
  pub same : t ≡ s

pub record Unread (bs : List ℕ) (number : ℕ) (s t : State) (r : Option Reply) : Type 0 where
  pub heard : Passed bs → ⊥
  pub unwritten : Unwritten bs
  pub said : r ≡ Some (refused_at number Line)
  pub same : t ≡ s

pub record Obeyed (bs : List ℕ) (number : ℕ) (s t : State) (r : Option Reply) : Type 0 where
  pub command : Command
  pub says : Says bs command
  pub obeys : Obeys command number s t r

pub record Short (bs : List ℕ) (s t : State) (f : Fault) : Type 0 where
  pub fault : f ≡ NoMemory
  pub begun : Begun bs
  pub same : t ≡ s

abbrev pub Heard : List ℕ → (number : ℕ) → (before after : State) → Result (Option Reply) Fault → Type 0
Heard bs l s t (Ok r) = Quiet bs s t r ⊎ (Unread bs l s t r ⊎ Obeyed bs l s t r)
Heard bs l s t (Err f) = Short bs s t f
