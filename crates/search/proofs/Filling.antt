-- The tallies of a ring's choices, made pan by pan: with the pan in place p come the choices from 2 ^ p on, and 2 ^ (6 * g) is
-- the choice of the first pan of group g.
use Rattle.std.proofs.Common.{◌≡◌, ◌≢◌, ℕ, ◌+◌, ◌*◌, ◌/◌, ◌%◌, ◌^◌, ◌<◌, ◌≤◌, List, length, get_or, set, inl, inr, add-one, add-mul, mul-le-mul_right, lt_of_mul-lt-mul_right, get_or-set_other, get_or-set_same, arith}
use native.Mathlib.Nat.{pow-succ'}
use Rattle.std.proofs.lemmas.Nat.{pow_below, pow_pos, pow-add}
use Rattle.std.proofs.lemmas.Bool.{cases_lt}
use Rattle.choices.specs.Tallied.{Adds}
use Rattle.choices.specs.declared.ring.Ring.{Ring}
use Rattle.choices.specs.declared.tally.Tally.{Tally}
use Rattle.choices.proofs.Blocks.{sum_apart}
use Rattle.choices.proofs.Tallies.{opened_apart, tallied_apart}
use Rattle.choices.specs.Tallied.{empty_ones, old_ones}
use Rattle.search.specs.Groups.{TalliedBelow, part, nothing}
use Rattle.search.proofs.Groups.{TallyOf, group_below}

none : (r : Ring) → TallyOf r 0 nothing
none r =
    let ws = r.weights.now in
    let n = length ws in
    record {
      weighs = omega (arith, sum_apart ws n 0 0 0 (omega arith));
      counts = omega (arith, opened_apart ws 0 0 0 (omega arith));
      empties = omega (arith, sum_apart (empty_ones ws) n 0 0 0 (omega arith));
      olds = omega (arith, sum_apart (old_ones r.rule.age r.ages.now) n 0 0 0 (omega arith));
    }

-- before any pan
pub blank : (r : Ring) (ts : List Tally) → ((i : ℕ) → get_or ts i nothing ≡ nothing) → TalliedBelow r 1 ts
blank r ts h i l below = let e : part i ≡ 0 = omega arith in rw (e, h i) (none r)

-- six pans more make 64 times as many choices
wider : (g h : ℕ) → g < h → 2 ^ (6 * g) * 64 ≤ 2 ^ (6 * h)
wider g h l =
    elim (cases_lt (6 * g + 6) (6 * h)) [
      | inl b ↦ omega (arith, pow_below (6 * g + 6) (6 * h) b, pow-add 2 (6 * g) 6)
      | inr b ↦ let e : 6 * h ≡ 6 * g + 6 = omega arith in rw e (omega (arith, pow-add 2 (6 * g) 6))
    ]

-- entry y of group h is of a choice below the next one of group g, and is not that one's: so it is known
known :
    (g h y s x : ℕ) → y < 64 → 1 ≤ s → s + x < 64 → (h ≡ g → y ≢ s + x) →
    y * 2 ^ (6 * h) < s * 2 ^ (6 * g) + (x + 1) * 2 ^ (6 * g) → y * 2 ^ (6 * h) < s * 2 ^ (6 * g) + x * 2 ^ (6 * g)
known g h y s x narrow some few ne below =
    elim (cases_lt h g) [
      | inl l ↦ lower l
      | inr le ↦ elim (cases_lt g h) [ inl l ↦ elim (cases_lt 0 y) [ inl p ↦ absurd (higher l p) | inr z ↦ zeros (omega arith) ] | inr ge ↦ same (omega arith) ]
    ]
  where
    W : ℕ
    W = 2 ^ (6 * g)

    V : ℕ
    V = 2 ^ (6 * h)

    at_least : W ≤ s * W
    at_least = let le : 1 ≤ s = omega (arith, some) in omega (arith, mul-le-mul_right W le)

    lower : h < g → y * V < s * W + x * W
    lower l = let le : y ≤ 63 = omega arith in omega (arith, mul-le-mul_right V le, wider h g l, at_least, pow_pos (6 * h))

    zeros : y ≡ 0 → y * V < s * W + x * W
    zeros e = rw e (omega (arith, at_least, pow_pos (6 * g)))

    higher : g < h → 0 < y → ⊥
    higher l p =
        let le : 1 ≤ y = omega (arith, p) in
        let room : s + (x + 1) ≤ 64 = omega arith in
        omega (arith, below, mul-le-mul_right V le, wider g h l, mul-le-mul_right W room, add-mul s (x + 1) W)

    same : h ≡ g → y * V < s * W + x * W
    same e =
        let b : y * W < (s + (x + 1)) * W = omega (arith, rw e at below, add-mul s (x + 1) W) in
        let lt : y < s + (x + 1) = lt_of_mul-lt-mul_right W b in
        let n : y ≢ s + x = ne e in
        let le : y + 1 ≤ s + x = omega arith in
        rw e (omega (arith, mul-le-mul_right W le, add-mul y 1 W, add-mul s x W, pow_pos (6 * g)))

-- the choices from 2 ^ p on, in units of the group's first pan
pub units : (p : ℕ) → 2 ^ p ≡ 2 ^ (p % 6) * 2 ^ (6 * (p / 6))
units p = let e : p % 6 + 6 * (p / 6) ≡ p = omega arith in rw e at (pow-add 2 (p % 6) (6 * (p / 6)))

pub half : (p : ℕ) → 2 ^ (p % 6) ≤ 32
half p = elim (cases_lt (p % 6) 5) [ inl b ↦ omega (arith, pow_below (p % 6) 5 b) | inr b ↦ let e : p % 6 ≡ 5 = omega arith in rw e (omega arith) ]

-- all that is filled in is there
pub there :
    (n p x len : ℕ) → p < n → n ≤ 24 → x < 2 ^ (p % 6) → 64 ≤ len → (6 < n → 256 ≤ len) → 64 * (p / 6) + 2 ^ (p % 6) + x < len
there n p x len l few lt one all =
    elim (cases_lt p 6) [
      | inl b ↦ let e : p / 6 ≡ 0 = omega arith in omega (arith, half p)
      | inr b ↦ omega (arith, half p, all (omega arith))
    ]

-- the pans of place p and above it open twice as many choices
pub doubled : (p x : ℕ) → x ≡ 2 ^ (p % 6) → 2 ^ (p + 1) ≤ 2 ^ p + x * 2 ^ (6 * (p / 6))
doubled p x e = rw (e, add-one p, pow-succ' 2 p) (omega (arith, units p))

more : (p x : ℕ) → x < 2 ^ (p % 6) → x * 2 ^ (6 * (p / 6)) < 2 ^ p
more p x lt =
    let W = 2 ^ (6 * (p / 6)) in
    let le : x + 1 ≤ 2 ^ (p % 6) = omega (arith, lt) in
    omega (arith, mul-le-mul_right W le, add-mul x 1 W, units p, pow_pos (6 * (p / 6)))

-- the choice with pan p shut
pub shut :
    (r : Ring) (ts : List Tally) (p x j : ℕ) → p < 24 → x < 2 ^ (p % 6) → j ≡ 64 * (p / 6) + x →
    TalliedBelow r (2 ^ p + x * 2 ^ (6 * (p / 6))) ts → TallyOf r (x * 2 ^ (6 * (p / 6))) (get_or ts j nothing)
shut r ts p x j few lt from all =
    let e : j ≡ x + 64 * (p / 6) = omega arith in
    rw e (group_below r (2 ^ p + x * 2 ^ (6 * (p / 6))) ts all (p / 6) x (omega arith) (omega (arith, half p)) (omega (arith, more p x lt)))

-- one entry more
pub filled :
    (r : Ring) (ts : List Tally) (p x j k : ℕ) (pan d : Tally) → p < 24 → x < 2 ^ (p % 6) →
    j ≡ 64 * (p / 6) + x → k ≡ 64 * (p / 6) + 2 ^ (p % 6) + x → k < length ts →
    TalliedBelow r (2 ^ p + x * 2 ^ (6 * (p / 6))) ts → TallyOf r (2 ^ p) pan → Adds pan (get_or ts j nothing) d →
    TalliedBelow r (2 ^ p + (x + 1) * 2 ^ (6 * (p / 6))) (set ts k d)
filled r ts p x j k pan d few lt from to long all one adds i l below =
    elim (cases_lt i k) [
      | inl a ↦ other (omega arith)
      | inr a ↦ elim (cases_lt k i) [ inl b ↦ other (omega arith) | inr b ↦ same (omega arith) ]
    ]
  where
    g : ℕ
    g = p / 6

    s : ℕ
    s = 2 ^ (p % 6)

    W : ℕ
    W = 2 ^ (6 * g)

    opened : TallyOf r (2 ^ p + x * W) d
    opened =
        let e : 1 * 2 ^ p ≡ 2 ^ p = omega arith in
        rw e at (tallied_apart r.weights.now r.ages.now r.rule.age 1 p (x * W) pan (get_or ts j nothing) d (more p x lt) (rw e one) (shut r ts p x j few lt from all) adds)

    new : part k ≡ 2 ^ p + x * W
    new =
        let low : k % 64 ≡ s + x = omega (arith, half p) in
        let high : k / 64 ≡ g = omega (arith, half p) in
        rw (low, high) (omega (arith, add-mul s x W, units p))

    other : i ≢ k → TallyOf r (part i) (get_or (set ts k d) i nothing)
    other ne =
        let apart : i / 64 ≡ g → i % 64 ≢ s + x = λ e. omega arith in
        rw get_or-set_other (all i l (rw (units p) (known g (i / 64) (i % 64) s x (omega arith) (pow_pos (p % 6)) (omega (arith, half p)) apart (rw (units p) at below))))

    same : i ≡ k → TallyOf r (part i) (get_or (set ts k d) i nothing)
    same e = rw (e, new) (rw get_or-set_same opened)
