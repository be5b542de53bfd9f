-- What a handful that falls into a pan leaves, and when it is turned away. Assumes nothing: these are definitions.
--   fall_refusal   3 at the pan for more than 1,000,000 grams; then 4 for a pan that is not there or not empty
--   Fell           what each answer says: the grams lie in the pan, or nothing changed
use Rattle.std.specs.Prelude.{◌≡◌, ℕ, ◌&&◌, List, length, Some, None, Ok, Err, Option, Result, if◌then◌else◌, ◌==◌, nat_le, nat_lt, slice_index, slice_set}
use Rattle.answers.specs.declared.refusal.Refusal.{Refusal}
use Rattle.answers.specs.declared.refusal.Refusal.TheVariants.{Number, Line}
use Rattle.choices.specs.declared.limits.TheConstants.{LIMIT}

abbrev pub fall_refusal : List ℕ → (pan grams : ℕ) → Option Refusal
fall_refusal ws p w =
    if nat_le w LIMIT then (if (nat_lt p (length ws) && slice_index ws p == 0) then None else (Some Line)) else (Some (Number p))

abbrev pub Fell : Option Refusal → List ℕ → (pan grams : ℕ) → List ℕ → {U : Type 0} → Result U Refusal → Type 0
Fell None ws p w ws₁ (Ok u) = ws₁ ≡ slice_set ws p w
Fell None ws p w ws₁ (Err f) = ⊥
Fell (Some g) ws p w ws₁ (Ok u) = ⊥
Fell (Some g) ws p w ws₁ (Err f) = (f ≡ g) × (ws₁ ≡ ws)
