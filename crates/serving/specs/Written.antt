-- What is written, where it is known what the writer holds. Assumes nothing: these are definitions.
--   SomeWritten   the first bytes of a text were written, and nothing where writing failed
--   Written       a text was written, or its first bytes where writing failed
use Rattle.std.specs.Prelude.{◌≤◌, ℕ, List, length, take, Ok, Err, Option, Result}
use Rattle.std.specs.Io.KnownBytes.{Appends, Keeps}

abbrev pub SomeWritten : {E : Type 0} → (before after : Option (List ℕ)) → (text : List ℕ) → Result ℕ E → Type 0
SomeWritten before after text (Ok n) = (n ≤ length text) × Appends before after (take n text)
SomeWritten before after text (Err e) = Keeps before after

abbrev pub Written : {X E : Type 0} → (before after : Option (List ℕ)) → (text : List ℕ) → Result X E → Type 0
Written before after text (Ok x) = Appends before after text
Written before after text (Err e) = (k : ℕ) × Appends before after (take k text)
