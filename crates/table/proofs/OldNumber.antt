-- The number of the choice of the old pans: what is left of it from a pan on.
use Rattle.std.proofs.Common.{◌≡◌, ℕ, ◌+◌, ◌-◌, ◌*◌, ◌^◌, ◌<◌, ◌≤◌, Bool, true, false, cond, not, ◌&&◌, ◌||◌, ltb, leb, ◌⊎◌, List, [], ◌∷◌, length, get_or, drop, refl, inl, inr, length-drop, mul-le-mul_left, mul-add, mul-one, add-one, arith}
use native.Mathlib.Nat.{pow-succ'}
use Rattle.std.proofs.lemmas.Nat.{pow-add}
use Rattle.std.proofs.lemmas.List.{drop_all}
use Rattle.std.proofs.lemmas.Bool.{cases_lt, le-ltb, lt-ltb, le-leb, lt-leb}
use Rattle.std.proofs.Math.Pow.{pow_mono}
use Rattle.choices.specs.Choice.{bit}
use Rattle.choices.specs.Numbered.{number_of}
use Rattle.choices.proofs.Numbers.{number_lt}
use Rattle.exact.specs.Pans.{only_old}
use Rattle.table.specs.Pans.{old_count_of}
use Rattle.table.proofs.Filling.{drop_ages, no_ages}

-- whether pan i is there and old
abbrev pub old_at : ℕ → (weights ages : List ℕ) → (pan : ℕ) → Bool
old_at old ws as' i = ltb i (length ws) && leb old (get_or as' i 0)

-- where no pan is old the number is 0
pub none_old : (old : ℕ) (as' : List ℕ) → old_count_of old as' ≡ 0 → number_of (only_old old as') ≡ 0
none_old old [] e = refl
none_old old (a ∷ as') e = at (ltb a old) e (λ rest. none_old old as' rest)
  where
    at : (b : Bool) → cond b 0 1 + old_count_of old as' ≡ 0 → (old_count_of old as' ≡ 0 → number_of (only_old old as') ≡ 0) → bit (not b) + 2 * number_of (only_old old as') ≡ 0
    at true e later = omega (arith, later (omega (arith, e)))
    at false e later = absurd (omega (arith, e))

length_old : (old : ℕ) (as' : List ℕ) → length (only_old old as') ≡ length as'
length_old old [] = refl
length_old old (a ∷ as') = omega (arith, length_old old as')

not_young : (a old : ℕ) → not (ltb a old) ≡ leb old a
not_young a old = at (cases_lt a old)
  where
    at : (a < old) ⊎ (old ≤ a) → not (ltb a old) ≡ leb old a
    at (inl young) = rw (lt-ltb a old young, lt-leb old a young) refl
    at (inr is_old) = rw (le-ltb a old is_old, le-leb old a is_old) refl

-- one pan, and those behind it
pub old_next :
    (old : ℕ) (ws as' : List ℕ) (i : ℕ) → length as' ≡ length ws →
    number_of (only_old old (drop i as')) ≡ bit (old_at old ws as' i) + 2 * number_of (only_old old (drop (i + 1) as'))
old_next old ws as' i paired = at (cases_lt i (length ws))
  where
    at : (i < length ws) ⊎ (length ws ≤ i) → number_of (only_old old (drop i as')) ≡ bit (old_at old ws as' i) + 2 * number_of (only_old old (drop (i + 1) as'))
    at (inl few) = rw (drop_ages old ws as' i paired few, lt-ltb i (length ws) few, not_young (get_or as' i 0) old) refl
    at (inr past) = rw (no_ages old ws as' i paired past, drop_all (i + 1) as' (omega arith), le-ltb i (length ws) past) refl

-- past the last pan it is 0
pub old_all : (old : ℕ) (as' : List ℕ) (i : ℕ) → length as' ≤ i → number_of (only_old old (drop i as')) ≡ 0
old_all old as' i past = rw (drop_all i as' past) refl

-- the bits of two pans are small
pub marks_small : (i : ℕ) (o o' : Bool) → i + 1 ≤ 24 → bit o * 2 ^ i + bit o' * 2 ^ (i + 1) ≤ 2 ^ 25
marks_small i o o' low = omega (arith, mark i o (omega (arith, low)), mark (i + 1) o' low)
  where
    mark : (k : ℕ) (c : Bool) → k ≤ 24 → bit c * 2 ^ k ≤ 2 ^ 24
    mark k true few = omega (arith, pow_mono {i = k} {j = 24} few)
    mark k false few = omega arith

-- two free pans marked in the number of the old ones: the marks of both pans, and what is left
pub old_two :
    (old : ℕ) (ws as' : List ℕ) (pair pans : ℕ) (o o' : Bool) → length as' ≡ length ws → bit (old_at old ws as' (2 * pair) || o) ≡ bit (old_at old ws as' (2 * pair)) + bit o →
    bit (old_at old ws as' (2 * pair + 1) || o') ≡ bit (old_at old ws as' (2 * pair + 1)) + bit o' →
    pans + 2 ^ (2 * pair) * number_of (only_old old (drop (2 * pair) as')) + (bit o * 2 ^ (2 * pair) + bit o' * 2 ^ (2 * pair + 1))
    ≡ pans + bit (old_at old ws as' (2 * pair) || o) * 2 ^ (2 * pair) + bit (old_at old ws as' (2 * pair + 1) || o') * 2 ^ (2 * pair + 1)
    + 2 ^ (2 * (pair + 1)) * number_of (only_old old (drop (2 * (pair + 1)) as'))
old_two old ws as' pair pans o o' paired e f =
    let two : 2 * (pair + 1) ≡ 2 * pair + 1 + 1 = omega arith in
    rw (two, twice (2 * pair + 1), twice (2 * pair), e, f, old_next old ws as' (2 * pair) paired, old_next old ws as' (2 * pair + 1) paired)
    (marks (2 ^ (2 * pair)) (number_of (only_old old (drop (2 * pair + 1 + 1) as'))) (bit (old_at old ws as' (2 * pair))) (bit (old_at old ws as' (2 * pair + 1))) (bit o) (bit o'))
  where
    twice : (i : ℕ) → 2 ^ (i + 1) ≡ 2 * 2 ^ i
    twice i = rw (add-one i, pow-succ' 2 i) refl

    marks : (p n a b c d : ℕ) → pans + p * (a + 2 * (b + 2 * n)) + (c * p + d * (2 * p)) ≡ pans + (a + c) * p + (b + d) * (2 * p) + 2 * (2 * p) * n
    marks p n a b c d = grind arith

-- what is read so far and what is left fit in 24 bits
pub old_small : (old : ℕ) (as' : List ℕ) (i n : ℕ) → length as' ≤ 24 → i ≤ 24 → n < 2 ^ i → n + 2 ^ i * number_of (only_old old (drop i as')) < 2 ^ 24
old_small old as' i n few low small =
    let rest = number_of (only_old old (drop i as')) in
    let below : rest < 2 ^ (24 - i) = omega (arith, number_lt (only_old old (drop i as')), pow_mono {i = length (only_old old (drop i as'))} {j = 24 - i} (omega (arith, length_old old (drop i as'), length-drop i as'))) in
    let more : rest + 1 ≤ 2 ^ (24 - i) = omega (arith, below) in
    let whole : 2 ^ i * 2 ^ (24 - i) ≡ 2 ^ 24 = let e : i + (24 - i) ≡ 24 = omega arith in rw (sym_pow i) (rw e refl) in
    omega (arith, mul-le-mul_left (2 ^ i) more, mul-add (2 ^ i) rest 1, mul-one (2 ^ i), whole, small)
  where
    sym_pow : (k : ℕ) → 2 ^ k * 2 ^ (24 - k) ≡ 2 ^ (k + (24 - k))
    sym_pow k = rw (pow-add 2 k (24 - k)) refl
