-- Laws of choices as numbers: every choice is some number, and every number is some choice.
use Rattle.std.proofs.Common.{◌≡◌, ℕ, zero, suc, ◌+◌, ◌*◌, ◌/◌, ◌%◌, ◌^◌, ◌<◌, ◌≤◌, Bool, true, false, eqb, [], ◌∷◌, length, sym, refl, ap, ◌∙◌, ap₂, mod-eq_of_lt, mul_assoc, mul_comm, mul-one, mul-add, add-one, arith}
use native.Mathlib.Nat.{pow-succ', mul-add-div_right}
use Rattle.std.proofs.lemmas.Nat.{pow_pos, pow_below, shr_high, mod-pow-add}
use Rattle.std.proofs.lemmas.Bool.Decides.{nat_tests}
use Rattle.choices.specs.Choice.{Choice, bit, opened}
use Rattle.choices.specs.Numbered.{choice_of, choice_from, number_of, odd}

pub length_choice_of : (n m : ℕ) → length (choice_of n m) ≡ n
length_choice_of zero m = refl
length_choice_of (suc n) m = ap suc (length_choice_of n m)

pub bit_le : (b : Bool) → bit b ≤ 1
bit_le true = omega arith
bit_le false = omega arith

pub bit_odd : (m : ℕ) → bit (odd m) ≡ m % 2
bit_odd m = at (odd m) refl
  where
    at : (b : Bool) → odd m ≡ b → bit b ≡ m % 2
    at true e = grind (arith, nat_tests)
    at false e = grind (arith, nat_tests)

pub odd_bit : (b : Bool) → odd (bit b) ≡ b
odd_bit true = refl
odd_bit false = refl

pub number_lt : (cs : Choice) → number_of cs < 2 ^ length cs
number_lt [] = omega arith
number_lt (c ∷ cs) = rw (pow-succ' 2 (length cs)) (omega (arith, number_lt cs, bit_le c))

-- one pan more, in front: the loop that makes the number
pub number_more : (n m : ℕ) → number_of (choice_of (n + 1) m) ≡ 2 * number_of (choice_of n m) + m / 2 ^ n % 2
number_more n m = rw (add-one n) (omega (arith, bit_odd (m / 2 ^ n)))

pub number_room : (n m : ℕ) → n < 24 → number_of (choice_of n m) < 2 ^ 24
number_room n m h = omega (arith, number_lt (choice_of n m), ap (λ (k : ℕ). 2 ^ k) (length_choice_of n m), pow_below n 24 h)

pub odd_more : (a q : ℕ) → odd (2 * a + q) ≡ odd q
odd_more a q = let h : (2 * a + q) % 2 ≡ q % 2 = omega arith in ap (λ (x : ℕ). eqb x 1) h

-- what stands above the n bits does not matter
pub choice_of_high : (n a m : ℕ) → choice_of n (a * 2 ^ n + m) ≡ choice_of n m
choice_of_high zero a m = refl
choice_of_high (suc n) a m =
    let e : a * 2 ^ suc n + m ≡ (2 * a) * 2 ^ n + m = rw (pow-succ' 2 n) (omega (arith, mul_assoc a 2 (2 ^ n), mul_comm a 2)) in
    rw e (ap₂ ◌∷◌ (ap odd (mul-add-div_right (pow_pos n) (2 * a) m) ∙ odd_more a (m / 2 ^ n)) (choice_of_high n (2 * a) m))

-- a choice's number, pan 0 in the highest bit
abbrev pub code : Choice → ℕ
code [] = 0
code (c ∷ cs) = bit c * 2 ^ length cs + code cs

pub code_lt : (cs : Choice) → code cs < 2 ^ length cs
code_lt [] = omega arith
code_lt (true ∷ cs) = rw (pow-succ' 2 (length cs)) (omega (arith, code_lt cs))
code_lt (false ∷ cs) = rw (pow-succ' 2 (length cs)) (omega (arith, code_lt cs))

pub choice_of_code : (cs : Choice) → choice_of (length cs) (code cs) ≡ cs
choice_of_code [] = refl
choice_of_code (c ∷ cs) =
    ap₂ ◌∷◌ (ap odd (shr_high (bit c) (length cs) (code cs) (code_lt cs)) ∙ odd_bit c) (choice_of_high (length cs) (bit c) (code cs) ∙ choice_of_code cs)

pub code_choice_of : (n m : ℕ) → code (choice_of n m) ≡ m % 2 ^ n
code_choice_of zero m = omega arith
code_choice_of (suc n) m =
    rw (length_choice_of n m, bit_odd (m / 2 ^ n), code_choice_of n m) (sym (mod-pow-add m 1 n) ∙ ap (λ (k : ℕ). m % 2 ^ k) {y = suc n} (omega arith))

-- every choice of n pans is some number below 2 ^ n
pub numbered : (n : ℕ) (cs : Choice) → length cs ≡ n → (m : ℕ) × (m < 2 ^ n) × (choice_of n m ≡ cs)
numbered n cs e = (code cs, rw e at (code_lt cs), rw e at (choice_of_code cs))

-- the number that is answered stands for the choice
pub choice_from_number : (cs : Choice) → choice_from (length cs) (number_of cs) ≡ cs
choice_from_number [] = refl
choice_from_number (c ∷ cs) =
    ap₂ ◌∷◌ (ap (λ (r : ℕ). eqb r 1) (low c (number_of cs)) ∙ is_bit c) (ap (choice_from (length cs)) (half c (number_of cs)) ∙ choice_from_number cs)
  where
    is_bit : (c : Bool) → eqb (bit c) 1 ≡ c
    is_bit true = refl
    is_bit false = refl

    low : (c : Bool) (n : ℕ) → (bit c + 2 * n) % 2 ≡ bit c
    low true n = omega arith
    low false n = omega arith

    half : (c : Bool) (n : ℕ) → (bit c + 2 * n) / 2 ≡ n
    half true n = omega arith
    half false n = omega arith

-- what opens no pan is number 0
pub none_opened : (cs : Choice) → opened cs ≡ 0 → code cs ≡ 0
none_opened [] e = refl
none_opened (true ∷ cs) e = absurd (omega arith)
none_opened (false ∷ cs) e = omega (arith, none_opened cs (omega arith))

pub some_opened : (n m : ℕ) → 0 < m → m < 2 ^ n → 1 ≤ opened (choice_of n m)
some_opened n m p l = at (opened (choice_of n m)) refl
  where
    at : (k : ℕ) → opened (choice_of n m) ≡ k → 1 ≤ k
    at zero e = absurd (omega (arith, none_opened (choice_of n m) e, code_choice_of n m, mod-eq_of_lt l))
    at (suc k) e = omega arith

-- a number read so far, with one pan more
pub marks_more : (i pans n : ℕ) (c : Bool) → pans + 2 ^ i * (bit c + 2 * n) ≡ (pans + bit c * 2 ^ i) + 2 ^ (i + 1) * n
marks_more i pans n true = rw (add-one i, pow-succ' 2 i) (omega (arith, mul-add (2 ^ i) 1 (2 * n), mul-one (2 ^ i), mul_assoc (2 ^ i) 2 n, mul_comm (2 ^ i) 2))
marks_more i pans n false = rw (add-one i, pow-succ' 2 i) (omega (arith, mul-add (2 ^ i) 0 (2 * n), mul_assoc (2 ^ i) 2 n, mul_comm (2 ^ i) 2))
