-- What is found where numbers stand each after a blank.
use Rattle.std.specs.Prelude.{◌≡◌, ℕ, ◌-◌, ◌^◌, ◌<◌, ◌≤◌, min, false, List, [], ◌∷◌, ◌++◌, map, length, take, Ok, Err, vec_items, Option, Result, Vec, MatchOption, ◌≢◌, slice_index}
use Rattle.std.specs.Borrow.{Bor}
use Rattle.std.specs.declared.alloc.Global.{Global}
use Rattle.std.specs.Str.Parse.{AllDigits, digits_value}
use Rattle.std.specs.Int.{IsInRange}
use Rattle.text.specs.declared.commands.Numbers.{Numbers}
use Rattle.text.specs.declared.faults.Fault.{Fault}
use Rattle.text.specs.declared.faults.Fault.TheVariants.{Unreadable, NoMemory}
use Rattle.text.specs.Held.{is_many, numbers_in}
use Rattle.text.specs.Written.{numeral, spaced}

-- what is kept of a number in 32 bits: the largest one where it is larger
abbrev pub capped : ℕ → ℕ
capped n = min n (2 ^ 32 - 1)

-- the first count bytes are digits and write a number that is kept as n, and no digit follows
pub record Figures (bs : List ℕ) (n count : ℕ) : Type 0 where
  pub within : count ≤ length bs
  pub digits : AllDigits 10 (take count bs)
  pub kept : n ≡ capped (digits_value 10 (take count bs))
  pub stops : count < length bs → IsInRange 48 57 (slice_index bs count) → ⊥

-- bs is a number after its blank and then rest, and cannot be taken apart in another way
pub record Begins (bs : List ℕ) (n : ℕ) (rest : List ℕ) : Type 0 where
  pub number : ℕ
  pub kept : n ≡ capped number
  pub split : bs ≡ 32 ∷ (numeral number ++ rest)
  pub only : (ns : List ℕ) → bs ≡ spaced ns → (ms : List ℕ) × (ns ≡ number ∷ ms) × (rest ≡ spaced ms)

abbrev pub NextNumber : List ℕ → Option (ℕ × Bor (List ℕ)) → Type 0
NextNumber bs r = MatchOption r ((ns : List ℕ) → bs ≡ spaced ns → ns ≡ []) (λ x. Begins bs x.0 x.1.now)

-- two numbers at most, and not in memory that was asked for; or no two at most are written so
abbrev pub AtMostTwo : List ℕ → Option Numbers → Type 0
AtMostTwo bs r = MatchOption r ((ns : List ℕ) → length ns ≤ 2 → bs ≢ spaced ns) (λ x. (is_many x ≡ false) × ((ns : List ℕ) × (bs ≡ spaced ns) × (numbers_in x ≡ map capped ns)))

abbrev pub Listed : List ℕ → Result (Vec ℕ Global) Fault → Type 0
Listed bs (Ok v) = (ns : List ℕ) × (bs ≡ spaced ns) × (vec_items v ≡ map capped ns)
Listed bs (Err Unreadable) = (ns : List ℕ) → bs ≢ spaced ns
Listed bs (Err NoMemory) = bs ≡ [] → ⊥
