-- One digit more of a number that is kept in 32 bits.
use Rattle.std.proofs.Common.{◌≡◌, ℕ, ◌+◌, ◌-◌, ◌*◌, ◌^◌, ◌<◌, min, List, length, get_or, take, sym, ap, ◌∙◌, arith}
use Rattle.std.proofs.lemmas.Int.Digits.{digits_value_more, digits_more}
use Rattle.std.proofs.lemmas.Str.{digit_value_digit}
use Rattle.std.specs.Str.Parse.{AllDigits, digits_value}
use Rattle.std.specs.Int.{IsInRange}
use Rattle.text.specs.Scanning.{capped}

capped_more : (v w d : ℕ) → w ≡ capped v → min (min (w * 10) (2 ^ 32 - 1) + d) (2 ^ 32 - 1) ≡ capped (v * 10 + d)
capped_more v w d e = omega (arith, e)

-- the number that the first i digits write, with the next digit
module _ (bs : List ℕ) (i : ℕ) (inside : i < length bs) (digit : IsInRange 48 57 (get_or bs i 0)) where
  pub more_digits : AllDigits 10 (take i bs) → AllDigits 10 (take (i + 1) bs)
  more_digits ds = digits_more 10 bs i inside ds (omega (arith, digit_value_digit (get_or bs i 0) digit, digit))

  pub more_value : (w : ℕ) → w ≡ capped (digits_value 10 (take i bs)) → min (min (w * 10) (2 ^ 32 - 1) + (get_or bs i 0 - 48)) (2 ^ 32 - 1) ≡ capped (digits_value 10 (take (i + 1) bs))
  more_value w e = capped_more _ _ _ e ∙ ap capped (sym (digits_value_more 10 bs i inside ∙ ap (λ d. digits_value 10 (take i bs) * 10 + d) (omega (arith, digit_value_digit (get_or bs i 0) digit))))
