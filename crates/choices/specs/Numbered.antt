-- Choices as numbers, in the two ways that are used. Assumes nothing: these are definitions.
--   choice_of    the choice of n pans in the n lowest bits of a number, pan 0 in the highest of them: the larger of two
--                numbers opens the first pan that differs
--   Opens        every pan that the choice numbered a opens is opened by the choice numbered b
--   number_of    the number that is answered for a choice: 2 to the power of each opened pan's number, added
--   choice_from  the choice of n pans that such a number stands for
use Rattle.std.specs.Prelude.{◌≡◌, ℕ, zero, suc, ◌+◌, ◌*◌, ◌/◌, ◌%◌, ◌^◌, Bool, true, [], ◌∷◌, ◌==◌}
use Rattle.choices.specs.Choice.{Choice, bit}

abbrev pub odd : ℕ → Bool
odd m = m % 2 == 1

abbrev pub choice_of : ℕ → ℕ → Choice
choice_of zero m = []
choice_of (suc n) m = odd (m / 2 ^ n) ∷ choice_of n m

abbrev pub Opens : ℕ → ℕ → Type 0
Opens a b = (i : ℕ) → odd (a / 2 ^ i) ≡ true → odd (b / 2 ^ i) ≡ true

abbrev pub number_of : Choice → ℕ
number_of [] = 0
number_of (c ∷ cs) = bit c + 2 * number_of cs

abbrev pub choice_from : ℕ → ℕ → Choice
choice_from zero p = []
choice_from (suc n) p = odd p ∷ choice_from n (p / 2)
