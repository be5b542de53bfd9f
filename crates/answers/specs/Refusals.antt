-- The number and the place of each refusal. Assumes nothing: these are definitions.
--   refusal_number   its number in the list of refusals
--   refusal_place    where it applies, counted from 0, asked for at a line
--   lacked           refusal 5, with how much is taken, where less is there
--   or_else          the first of two, where there is one
--   passed           what was asked for, where nothing is turned away, or why it is
use Rattle.std.specs.Prelude.{ℕ, Some, None, Ok, Err, Option, Result, if◌then◌else◌, nat_le}
use Rattle.answers.specs.declared.refusal.Refusal.{Refusal}
use Rattle.answers.specs.declared.refusal.Refusal.TheVariants.{Rule, Pans, Number, Line, Room, Further}

abbrev pub refusal_number : Refusal → ℕ
refusal_number (Rule p) = 1
refusal_number (Pans p) = 2
refusal_number (Number p) = 3
refusal_number Line = 4
refusal_number (Room p) = 5
refusal_number (Further n p) = n

abbrev pub refusal_place : Refusal → (line : ℕ) → ℕ
refusal_place (Rule p) l = p
refusal_place (Pans p) l = p
refusal_place (Number p) l = p
refusal_place Line l = l
refusal_place (Room p) l = p
refusal_place (Further n p) l = p

abbrev pub lacked : (takes has : ℕ) → Option Refusal
lacked takes has = if nat_le takes has then None else (Some (Room takes))

abbrev pub or_else : {X : Type 0} → Option X → Option X → Option X
or_else None y = y
or_else (Some x) y = Some x

abbrev pub passed : {X : Type 0} → Option Refusal → X → Result X Refusal
passed None x = Ok x
passed (Some f) x = Err f
