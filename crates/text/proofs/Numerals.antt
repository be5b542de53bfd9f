-- What is known of a number in decimal.
use Rattle.std.proofs.Common.{◌≡◌, ℕ, ◌+◌, ◌*◌, ◌/◌, ◌%◌, ◌^◌, ◌<◌, eqb, List, [], ◌∷◌, ◌++◌, map, length, get_or, decimal, sym, refl, ap, ◌∙◌, subst, ⊎_elim, append_assoc, append-nil, arith}
use lib.ListN.{length-map}
use Rattle.std.proofs.lemmas.Nat.{div-mul-add, mod-mul-add}
use Rattle.std.proofs.lemmas.Fmt.{decimal-digits_of}
use Rattle.std.proofs.lemmas.Int.Digits.{digits_of_step, length-digits_of_step, all_below_base_digits_of, first_digits_of, number_digits_of, number_after_ge, digits_value_is, all_below_base_from_digits}
use Rattle.std.proofs.ByRecursion.{All-map, All-weaker}
use Rattle.std.proofs.lemmas.List.{get_or-map, nil_from_length}
use Rattle.std.proofs.lemmas.Str.{digit_value_digit}
use Rattle.std.proofs.lemmas.Str.Parse.{digit_from_value}
use Rattle.std.proofs.lemmas.Bool.{cases_eq, cond-false, ne_eqb}
use Rattle.std.specs.Str.Parse.{AllDigits, digits_value}
use Rattle.std.specs.Int.{IsInRange}
use Rattle.std.specs.Char.{digit_value}
use Rattle.std.specs.Fmt.{digits}
use Rattle.std.specs.Int.Digits.{digits_of, number_from_digits_after, number_from_digits, AllBelowBase}
use Rattle.std.specs.List.{AllByRecursion as All}
use Rattle.text.specs.Written.{numeral}

numeral_zero : numeral 0 ≡ 48 ∷ []
unfolding numeral
numeral_zero = refl

numeral_more : (n : ℕ) → 0 < n → numeral n ≡ map (λ d. 48 + d) (digits_of 10 n)
unfolding numeral
numeral_more n more = cond-false (eqb n 0) _ _ (ne_eqb n 0 (λ e. omega arith))

-- what holds of `0`, and of the digits of any other number
by_digits : (P : ℕ → List ℕ → Type 0) → P 0 (48 ∷ []) → ((n : ℕ) → 0 < n → P n (map (λ d. 48 + d) (digits_of 10 n))) → (n : ℕ) → P n (numeral n)
by_digits P none more n =
    ⊎_elim
    (λ e. rw e (rw numeral_zero none))
    (λ ne. let some : 0 < n = omega arith in rw (numeral_more n some) (more n some))
    (cases_eq n 0)

decimal_zero : decimal 0 ≡ 48 ∷ []
unfolding digits
decimal_zero = refl

-- what `{n}` writes
pub decimal_is : (n : ℕ) → n < 2 ^ 64 → decimal n ≡ numeral n
decimal_is = by_digits (λ n bs. n < 2 ^ 64 → decimal n ≡ bs) (λ small. decimal_zero) (λ n more small. decimal-digits_of n more small)

pub digits_numeral : (n : ℕ) → All (IsInRange 48 57) (numeral n)
digits_numeral =
    by_digits (λ n bs. All (IsInRange 48 57) bs) ((omega arith, omega arith), tt)
    (λ n more. All-map (IsInRange 48 57) (λ d. 48 + d) (digits_of 10 n) (All-weaker (λ d. d < 10) (λ d. IsInRange 48 57 (48 + d)) (λ d small. (omega arith, omega arith)) (digits_of 10 n) (all_below_base_digits_of 10 n (omega arith))))

pub numeral_some : (n : ℕ) → 0 < length (numeral n)
numeral_some = by_digits (λ n bs. 0 < length bs) (omega arith) (λ n more. omega (arith, length-map (digits_of 10 n) (λ d. 48 + d), length-digits_of_step 10 n (omega arith) more))

-- no other number than 0 begins with a 0
pub numeral_first : (n : ℕ) → get_or (numeral n) 0 0 ≡ 48 → length (numeral n) ≡ 1
numeral_first =
    by_digits (λ n bs. get_or bs 0 0 ≡ 48 → length bs ≡ 1) (λ e. refl)
    (λ n more e. absurd (omega (arith, first_digits_of 10 n (omega arith) more, sym (get_or-map (λ d. 48 + d) (digits_of 10 n) 0 0 0 (omega (arith, length-digits_of_step 10 n (omega arith) more))) ∙ e)))

values_back : (ds : List ℕ) → AllBelowBase 10 ds → map digit_value (map (λ d. 48 + d) ds) ≡ ds
values_back [] under = refl
values_back (d ∷ ds) under =
    let one : digit_value (48 + d) ≡ d = omega (arith, digit_value_digit (48 + d) (omega arith, omega arith)) in
    (λ i. one i ∷ values_back ds under.1 i)

value_numeral : (n : ℕ) → digits_value 10 (numeral n) ≡ n
value_numeral =
    by_digits (λ n bs. digits_value 10 bs ≡ n) refl
    (λ n more. digits_value_is 10 (map (λ d. 48 + d) (digits_of 10 n)) ∙ ap (number_from_digits 10) (values_back (digits_of 10 n) (all_below_base_digits_of 10 n (omega arith))) ∙ number_digits_of 10 n (omega arith))

pub same_number : (m n : ℕ) → numeral m ≡ numeral n → m ≡ n
same_number m n e = sym (value_numeral m) ∙ ap (digits_value 10) e ∙ value_numeral n

digits_after : (n : ℕ) (ds : List ℕ) → 0 < n → AllBelowBase 10 ds → digits_of 10 (number_from_digits_after 10 n ds) ≡ digits_of 10 n ++ ds
digits_after n [] more under = sym (append-nil (digits_of 10 n))
digits_after n (d ∷ ds) more under =
    digits_after (n * 10 + d) ds (omega arith) under.1
    ∙ ap (λ l. l ++ ds) (digits_of_step 10 (n * 10 + d) (omega arith) (omega arith) ∙ (λ i. digits_of 10 (div-mul-add n 10 d under.0 i) ++ (mod-mul-add n 10 d under.0 i ∷ [])))
    ∙ append_assoc (digits_of 10 n) (d ∷ []) ds

digits_one : (d n : ℕ) → 0 < d → d < 10 → n ≡ d → digits_of 10 n ≡ d ∷ []
digits_one d n more small e =
    let none : n / 10 ≡ 0 = omega arith in
    let last : n % 10 ≡ d = omega arith in
    digits_of_step 10 n (omega arith) (omega arith) ∙ (λ i. digits_of 10 (none i) ++ (last i ∷ []))

bytes_back : (bs : List ℕ) → AllDigits 10 bs → map (λ d. 48 + d) (map digit_value bs) ≡ bs
bytes_back [] ds = refl
bytes_back (b ∷ bs) ds =
    let digit = digit_from_value b ds.0 in
    let one : 48 + digit_value b ≡ b = omega (arith, digit_value_digit b digit, digit) in
    (λ i. one i ∷ bytes_back bs ds.1 i)

-- digits that don't begin with a 0, or just `0`, are how their number is written
pub numeral_value : (bs : List ℕ) → AllDigits 10 bs → 0 < length bs → (get_or bs 0 0 ≡ 48 → length bs ≡ 1) → numeral (digits_value 10 bs) ≡ bs
numeral_value [] ds some one = absurd (omega arith)
numeral_value (b ∷ bs) ds some one =
    ⊎_elim
    (λ e. let none : bs ≡ [] = nil_from_length bs (omega (arith, one e)) in subst (λ l. numeral (digits_value 10 l) ≡ l) (sym (λ i. e i ∷ none i)) numeral_zero)
    (λ ne.
    let digit = digit_from_value b ds.0 in
    let first : 0 < digit_value b = omega (arith, digit_value_digit b digit, digit, ne) in
    let under = all_below_base_from_digits 10 (b ∷ bs) ds in
    let after = digits_after (0 * 10 + digit_value b) (map digit_value bs) (omega arith) under.1 ∙ ap (λ l. l ++ map digit_value bs) (digits_one (digit_value b) (0 * 10 + digit_value b) first ds.0 (omega arith)) in
    let more : 0 < digits_value 10 (b ∷ bs) = omega (arith, digits_value_is 10 (b ∷ bs), number_after_ge 10 (0 * 10 + digit_value b) (map digit_value bs) (omega arith)) in
    numeral_more (digits_value 10 (b ∷ bs)) more ∙ ap (map (λ d. 48 + d)) (ap (digits_of 10) (digits_value_is 10 (b ∷ bs)) ∙ after) ∙ bytes_back (b ∷ bs) ds)
    (cases_eq b 48)
