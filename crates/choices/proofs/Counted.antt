-- A choice of n pans and its number: how many pans the number opens, which they are, and that every number below 2 ^ n is
-- some choice's.
use Rattle.std.proofs.Common.{◌≡◌, ℕ, zero, suc, ◌+◌, ◌*◌, ◌/◌, ◌%◌, ◌^◌, ◌<◌, Bool, true, false, [], ◌∷◌, length, get_or, refl, ap, ◌∙◌, ap₂, arith}
use native.Mathlib.Nat.{pow-succ'}
use lib.Count.{ones_step}
use Rattle.std.specs.Prelude.{count_ones}
use Rattle.std.proofs.lemmas.Nat.{ones-le, shr-shr}
use Rattle.choices.specs.Choice.{Choice, bit, opened}
use Rattle.choices.specs.Numbered.{choice_from, number_of, odd}
use Rattle.choices.proofs.Numbers.{bit_odd}

low : (c : Bool) (n : ℕ) → ((bit c + 2 * n) % 2 ≡ bit c) × ((bit c + 2 * n) / 2 ≡ n)
low true n = (omega arith, omega arith)
low false n = (omega arith, omega arith)

-- a bag's pans are counted from its number
pub ones_number_of : (cs : Choice) → count_ones (number_of cs) ≡ opened cs
ones_number_of [] = omega (arith, ones-le 0 0 (omega arith))
ones_number_of (c ∷ cs) =
    let l = low c (number_of cs) in
    ones_step (bit c + 2 * number_of cs) ∙ ap₂ ◌+◌ l.0 (ap count_ones l.1 ∙ ones_number_of cs)

pub length_choice_from : (n p : ℕ) → length (choice_from n p) ≡ n
length_choice_from zero p = refl
length_choice_from (suc n) p = ap suc (length_choice_from n (p / 2))

-- the choice that a number stands for has this number
pub number_choice_from : (n p : ℕ) → p < 2 ^ n → number_of (choice_from n p) ≡ p
number_choice_from zero p l = omega arith
number_choice_from (suc n) p l = omega (arith, bit_odd p, number_choice_from n (p / 2) (omega (arith, pow-succ' 2 n)))

-- pan i is opened just where bit i of the number is 1
pub choice_from_at : (n p i : ℕ) (d : Bool) → i < n → get_or (choice_from n p) i d ≡ odd (p / 2 ^ i)
choice_from_at zero p i d l = absurd (omega arith)
choice_from_at (suc n) p zero d l = ap odd (omega arith)
choice_from_at (suc n) p (suc i) d l = choice_from_at n (p / 2) i d (omega arith) ∙ ap odd (halved p i)
  where
    halved : (p i : ℕ) → p / 2 / 2 ^ i ≡ p / 2 ^ suc i
    halved p i = ap (λ (k : ℕ). p / k / 2 ^ i) {x = 2} {y = 2 ^ 1} refl ∙ (shr-shr p 1 i ∙ ap (λ (k : ℕ). p / 2 ^ k) {y = suc i} (omega arith))
