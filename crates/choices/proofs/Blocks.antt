-- Blocks of numbered choices: a number with t zeros at its end heads the block of the 2 ^ t numbers from it on. Each of
-- them opens what the head opens and some of the last t pans, and the last of them opens all that any of them opens.
use Rattle.std.proofs.Common.{◌≡◌, ℕ, zero, suc, ◌+◌, ◌-◌, ◌*◌, ◌/◌, ◌%◌, ◌^◌, ◌<◌, ◌≤◌, Bool, true, false, cond, not, ◌||◌, ltb, leb, List, [], ◌∷◌, sym, refl, ap, ◌∙◌, inl, inr, add-zero, mul-le-mul_right, mul_assoc, mul_comm, add-mul, lt_of_mul-lt-mul_right, mul_left_comm, arith}
use native.Mathlib.Nat.{pow-succ', mul-add-div_right, zero-div}
use lib.Count.{count_trailing_zeros, under}
use Rattle.std.proofs.lemmas.Nat.{pow_pos, pow-add, shl-shr, shr-shr, shr_high}
use Rattle.std.proofs.lemmas.Bool.{both_ways, cases_lt, or_left, or_right, and_parts, and_from, eq-eqb, ne_eqb}
use Rattle.choices.specs.Choice.{bit, weight_of, opened, none_empty, keeps_old}
use Rattle.choices.specs.Numbered.{Opens, choice_of, odd}
use Rattle.choices.proofs.Numbers.{odd_more}

part_mono : (x y : Bool) (w : ℕ) → (x ≡ true → y ≡ true) → cond x w 0 ≤ cond y w 0
part_mono true true w h = omega arith
part_mono false true w h = omega arith
part_mono false false w h = omega arith
part_mono true false w h = absurd (both_ways false refl (h refl))

bit_mono : (x y : Bool) → (x ≡ true → y ≡ true) → bit x ≤ bit y
bit_mono true true h = omega arith
bit_mono false true h = omega arith
bit_mono false false h = omega arith
bit_mono true false h = absurd (both_ways false refl (h refl))

pub opens_weight : (ws : List ℕ) (n a b : ℕ) → Opens a b → weight_of ws (choice_of n a) ≤ weight_of ws (choice_of n b)
opens_weight [] n a b h = omega arith
opens_weight (w ∷ ws) zero a b h = omega arith
opens_weight (w ∷ ws) (suc n) a b h = omega (arith, opens_weight ws n a b h, part_mono (odd (a / 2 ^ n)) (odd (b / 2 ^ n)) w (h n))

pub opens_opened : (n a b : ℕ) → Opens a b → opened (choice_of n a) ≤ opened (choice_of n b)
opens_opened zero a b h = omega arith
opens_opened (suc n) a b h = omega (arith, opens_opened n a b h, bit_mono (odd (a / 2 ^ n)) (odd (b / 2 ^ n)) (h n))

fill_mono : (x y f : Bool) → (x ≡ true → y ≡ true) → (not y || f) ≡ true → (not x || f) ≡ true
fill_mono false y f h e = refl
fill_mono true y f h e = rw (h refl) at e

wait_mono : (x y f : Bool) → (x ≡ true → y ≡ true) → (x || f) ≡ true → (y || f) ≡ true
wait_mono false y f h e = or_right y f e
wait_mono true y f h e = or_left y f (h refl)

-- what opens no empty pan has no part that does
pub opens_filled : (ws : List ℕ) (n a b : ℕ) → Opens a b → none_empty ws (choice_of n b) ≡ true → none_empty ws (choice_of n a) ≡ true
opens_filled [] n a b h e = refl
opens_filled (w ∷ ws) zero a b h e = refl
opens_filled (w ∷ ws) (suc n) a b h e =
    let p = and_parts (not (odd (b / 2 ^ n)) || leb 1 w) (none_empty ws (choice_of n b)) e in
    and_from _ _ (fill_mono (odd (a / 2 ^ n)) (odd (b / 2 ^ n)) (leb 1 w) (h n) p.0) (opens_filled ws n a b h p.1)

-- what has every old pan in it is part of nothing that leaves one out
pub opens_waited : (old : ℕ) (as' : List ℕ) (n a b : ℕ) → Opens a b → keeps_old old as' (choice_of n a) ≡ true → keeps_old old as' (choice_of n b) ≡ true
opens_waited old [] n a b h e = refl
opens_waited old (w ∷ as') zero a b h e = refl
opens_waited old (w ∷ as') (suc n) a b h e =
    let p = and_parts (odd (a / 2 ^ n) || ltb w old) (keeps_old old as' (choice_of n a)) e in
    and_from _ _ (wait_mono (odd (a / 2 ^ n)) (odd (b / 2 ^ n)) (ltb w old) (h n) p.0) (opens_waited old as' n a b h p.1)

-- ---- the bits of a block's numbers
even : (a : ℕ) → odd (2 * a) ≡ false
even a = ne_eqb ((2 * a) % 2) 1 (omega arith)

odd_suc : (a : ℕ) → odd (2 * a + 1) ≡ true
odd_suc a = eq-eqb ((2 * a + 1) % 2) 1 (omega arith)

-- at and above the block's width all its numbers have the head's bits
high_bit : (q t r i : ℕ) → r < 2 ^ t → t ≤ i → (q * 2 ^ t + r) / 2 ^ i ≡ q / 2 ^ (i - t)
high_bit q t r i l h =
    let e : t + (i - t) ≡ i = omega arith in
    sym (rw e at (shr-shr (q * 2 ^ t + r) t (i - t))) ∙ ap (λ (x : ℕ). x / 2 ^ (i - t)) (shr_high q t r l)

-- 2 ^ t as an even number of times 2 ^ i, for i below t
wide : (t i : ℕ) → i < t → 2 ^ t ≡ (2 * 2 ^ (t - suc i)) * 2 ^ i
wide t i h =
    let e : t ≡ suc (t - suc i) + i = omega arith in
    ap (λ (k : ℕ). 2 ^ k) e ∙ pow-add 2 (suc (t - suc i)) i ∙ ap (λ (x : ℕ). x * 2 ^ i) (pow-succ' 2 (t - suc i))

-- so the head is an even number of times 2 ^ i
doubled : (q t i : ℕ) → i < t → q * 2 ^ t ≡ (2 * (q * 2 ^ (t - suc i))) * 2 ^ i
doubled q t i h =
    let p = 2 ^ (t - suc i) in
    ap (λ (x : ℕ). q * x) (wide t i h) ∙ omega (arith, mul_assoc q (2 * p) (2 ^ i), mul_assoc q 2 p, mul_comm q 2, mul_assoc 2 q p, ap (λ (x : ℕ). x * 2 ^ i) {x = q * (2 * p)} {y = 2 * (q * p)} (omega (arith, mul_assoc q 2 p, mul_comm q 2, mul_assoc 2 q p)))

-- below it the head has none
head_bit : (q t i : ℕ) → i < t → odd (q * 2 ^ t / 2 ^ i) ≡ false
head_bit q t i h =
    let m = q * 2 ^ (t - suc i) in
    ap odd (ap (λ (x : ℕ). x / 2 ^ i) (doubled q t i h) ∙ shl-shr (2 * m) i) ∙ even m

spread : (q p P T : ℕ) → T ≡ (2 * (p + 1)) * P → 0 < P → q * T + (T - 1) ≡ (2 * (q * (p + 1) + p) + 1) * P + (P - 1)
spread q p P T e l =
    omega (
      arith,
      mul_assoc 2 (p + 1) P,
      add-mul p 1 P,
      ap (λ (x : ℕ). q * x) e,
      ap (λ (x : ℕ). q * x) (mul_assoc 2 (p + 1) P),
      mul_left_comm q 2 ((p + 1) * P),
      mul_assoc q (p + 1) P,
      add-mul (2 * (q * (p + 1) + p)) 1 P,
      mul_assoc 2 (q * (p + 1) + p) P,
      add-mul (q * (p + 1)) p P,
    )

-- the last of the block has all of them
last_bit : (q t i : ℕ) → i < t → odd ((q * 2 ^ t + (2 ^ t - 1)) / 2 ^ i) ≡ true
last_bit q t i h =
    let p = 2 ^ (t - suc i) - 1 in
    let e : 2 ^ (t - suc i) ≡ p + 1 = omega (arith, pow_pos (t - suc i)) in
    let whole = spread q p (2 ^ i) (2 ^ t) (rw e at (wide t i h)) (pow_pos i) in
    ap odd (ap (λ (x : ℕ). x / 2 ^ i) whole ∙ shr_high (2 * (q * (p + 1) + p) + 1) i (2 ^ i - 1) (omega (arith, pow_pos i))) ∙ odd_suc (q * (p + 1) + p)

-- below it the others have what they add to the head, and above it that has none
low_bit : (q t r i : ℕ) → i < t → odd ((q * 2 ^ t + r) / 2 ^ i) ≡ odd (r / 2 ^ i)
low_bit q t r i h =
    let e = doubled q t i h in
    ap (λ (x : ℕ). odd ((x + r) / 2 ^ i)) e ∙ ap odd (mul-add-div_right (pow_pos i) (2 * (q * 2 ^ (t - suc i))) r) ∙ odd_more (q * 2 ^ (t - suc i)) (r / 2 ^ i)

no_bit : (t r i : ℕ) → r < 2 ^ t → t ≤ i → odd (r / 2 ^ i) ≡ false
no_bit t r i l h = ap odd (rw (none r) at (high_bit 0 t r i l h) ∙ zero-div (2 ^ (i - t)))
  where
    none : (x : ℕ) → 0 * 2 ^ t + x ≡ x
    none x = omega arith

-- what adds up over the opened pans is, of a block's number, that of the head and that of the pans added to it
pub sum_apart :
    (xs : List ℕ) (n q t r : ℕ) → r < 2 ^ t →
    weight_of xs (choice_of n (q * 2 ^ t + r)) ≡ weight_of xs (choice_of n (q * 2 ^ t)) + weight_of xs (choice_of n r)
sum_apart [] n q t r l = refl
sum_apart (x ∷ xs) zero q t r l = refl
sum_apart (x ∷ xs) (suc n) q t r l = omega (arith, sum_apart xs n q t r l, here)
  where
    here : cond (odd ((q * 2 ^ t + r) / 2 ^ n)) x 0 ≡ cond (odd (q * 2 ^ t / 2 ^ n)) x 0 + cond (odd (r / 2 ^ n)) x 0
    here =
        elim (cases_lt n t) [
          | inl h ↦ rw (low_bit q t r n h, head_bit q t n h) (omega arith)
          | inr h ↦ rw (no_bit t r n l h, high_bit q t r n l h, ← high_bit q t 0 n (pow_pos t) h, add-zero (q * 2 ^ t)) (omega arith)
        ]

pub head_opens : (q t r : ℕ) → r < 2 ^ t → Opens (q * 2 ^ t) (q * 2 ^ t + r)
head_opens q t r l i b =
    elim (cases_lt i t) [
      | inl h ↦ absurd (both_ways (odd (q * 2 ^ t / 2 ^ i)) (head_bit q t i h) b)
      | inr h ↦ ap odd (high_bit q t r i l h ∙ sym (rw (zero_end (q * 2 ^ t)) at (high_bit q t 0 i (pow_pos t) h))) ∙ b
    ]
  where
    zero_end : (x : ℕ) → x + 0 ≡ x
    zero_end x = omega arith

pub last_opens : (q t r : ℕ) → r < 2 ^ t → Opens (q * 2 ^ t + r) (q * 2 ^ t + (2 ^ t - 1))
last_opens q t r l i b =
    elim (cases_lt i t) [
      | inl h ↦ last_bit q t i h
      | inr h ↦ ap odd (high_bit q t (2 ^ t - 1) i (omega (arith, pow_pos t)) h ∙ sym (high_bit q t r i l h)) ∙ b
    ]

-- a block lies between its head and its last
pub between : (k t q j : ℕ) → k ≡ q * 2 ^ t → k ≤ j → j < k + 2 ^ t → Opens k j × Opens j (k + 2 ^ t - 1)
between k t q j e l h =
    let r : j ≡ q * 2 ^ t + (j - k) = omega arith in
    let last : k + 2 ^ t - 1 ≡ q * 2 ^ t + (2 ^ t - 1) = omega (arith, pow_pos t) in
    (rw (e, r) (head_opens q t (j - k) (omega arith)), rw (last, r) (last_opens q t (j - k) (omega arith)))

-- a number is a multiple of 2 to the power of the zeros at its end
pub zeros_multiple : (k n t : ℕ) → t ≤ count_trailing_zeros k n → (q : ℕ) × (n ≡ q * 2 ^ t)
unfolding count_trailing_zeros
zeros_multiple k n zero h = (n, omega arith)
zeros_multiple zero n (suc t) h = absurd (omega arith)
zeros_multiple (suc k) n (suc t) h = at (n % 2) refl h (zeros_multiple k (n / 2) t)
  where
    at : (d : ℕ) → n % 2 ≡ d → suc t ≤ under d (count_trailing_zeros k (n / 2)) → (t ≤ count_trailing_zeros k (n / 2) → (q : ℕ) × (n / 2 ≡ q * 2 ^ t)) → (q : ℕ) × (n ≡ q * 2 ^ suc t)
    at zero e h rest =
        let r = rest (omega arith) in
        (r.0, omega (arith, r.1, pow-succ' 2 t, ap (λ (x : ℕ). r.0 * x) (pow-succ' 2 t), mul_left_comm r.0 2 (2 ^ t)))
    at (suc d) e h rest = absurd (omega arith)

-- a block lies within the 2 ^ n numbers
pub block_within : (q t n : ℕ) → t ≤ n → q * 2 ^ t < 2 ^ n → q * 2 ^ t + 2 ^ t ≤ 2 ^ n
block_within q t n l h =
    let e : 2 ^ n ≡ 2 ^ (n - t) * 2 ^ t = ap (λ (k : ℕ). 2 ^ k) {y = (n - t) + t} (omega arith) ∙ pow-add 2 (n - t) t in
    let b : q < 2 ^ (n - t) = lt_of_mul-lt-mul_right (2 ^ t) (rw e at h) in
    omega (arith, e, mul-le-mul_right {m = q + 1} {n = 2 ^ (n - t)} (2 ^ t) (omega arith), add-mul q 1 (2 ^ t))
