-- What stands in no command, and the first such thing of a line.
--
--   before_at    the byte before a place; before the line stands a blank
--   flaw_at      what is wrong at a place, by the byte there and its neighbours
--   FirstFlaw    a flaw and its place, with none before it; or that there is none
use Rattle.std.specs.Prelude.{◌≡◌, ◌==◌, ◌&&◌, ◌||◌, ◌<◌, ◌+◌, ◌-◌, ℕ, Bool, false, List, length, Option, Some, None}
use Rattle.std.specs.Prelude.{if◌then◌else◌, MatchOption, slice_get, slice_index}
use Rattle.std.specs.Char.{is_ascii_digit}
use Rattle.explaining.specs.declared.flaws.Flaw.{Flaw}
use Rattle.explaining.specs.declared.flaws.Flaw.TheVariants.{CarriageReturn, Tab, Blank, Sign, LeadingZero}

abbrev pub is_digit : Option ℕ → Bool
is_digit (Some byte) = is_ascii_digit byte
is_digit None = false

abbrev pub is_digit_at : List ℕ → ℕ → Bool
is_digit_at line place = is_digit (slice_get line place)

abbrev pub before_at : List ℕ → ℕ → ℕ
before_at line place = if place == 0 then 32 else slice_index line (place - 1)

-- at the byte, by the byte before it, whether the line ends with it, and whether a digit stands behind it
abbrev pub flaw_of : (byte before : ℕ) → (ends digit : Bool) → Option Flaw
flaw_of byte before ends digit =
    if byte == 13 then Some CarriageReturn
    else (if byte == 9 then Some Tab
    else (if byte == 32 && (before == 32 || ends) then Some Blank
    else (if (byte == 43 || byte == 45) && before == 32 then Some Sign
    else (if byte == 48 && (before == 32 && digit) then Some LeadingZero
    else None))))

abbrev pub flaw_at : List ℕ → (place : ℕ) → Option Flaw
flaw_at line place =
    flaw_of (slice_index line place) (before_at line place) (place + 1 == length line) (is_digit_at line (place + 1))

abbrev pub FirstFlaw : List ℕ → Option (Flaw × ℕ) → Type 0
FirstFlaw line r = MatchOption r
    ((place : ℕ) → place < length line → flaw_at line place ≡ None)
    (λ x. (x.1 < length line) × (flaw_at line x.1 ≡ Some x.0) × ((place : ℕ) → place < x.1 → flaw_at line place ≡ None))
