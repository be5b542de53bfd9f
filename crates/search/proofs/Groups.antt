-- The tally of a choice from those of its groups of pans.
use Rattle.std.proofs.Common.{◌≡◌, ℕ, ◌+◌, ◌*◌, ◌/◌, ◌%◌, ◌^◌, ◌<◌, ◌≤◌, List, length, get_or, inl, inr, sym, add-zero, arith}
use lib.Count.{count_trailing_zeros}
use Rattle.std.proofs.lemmas.Nat.{pow_below, pow_pos, mod_low, div-add-mod'}
use Rattle.std.proofs.lemmas.Bool.{cases_lt}
use Rattle.choices.specs.Numbered.{choice_of}
use Rattle.choices.specs.Tallied.{Tallied}
use Rattle.choices.specs.declared.ring.Ring.{Ring}
use Rattle.choices.specs.declared.tally.Tally.{Tally}
use Rattle.choices.proofs.Blocks.{zeros_multiple, block_within}
use Rattle.choices.proofs.Numbers.{length_choice_of, choice_of_high}
use Rattle.choices.proofs.Tallies.{Small, tallied_small}
use Rattle.search.specs.Groups.{TalliedBelow, nothing}
use Rattle.search.specs.declared.tallies.Tallies.{Tallies}

-- t is the tally of choice k of a ring's pans
abbrev pub TallyOf : Ring → ℕ → Tally → Type 0
TallyOf r k t = Tallied r.weights.now r.ages.now r.rule.age (choice_of (length r.weights.now) k) t

pub fewer : (r : Ring) (a b : ℕ) (ts : List Tally) → a ≤ b → TalliedBelow r b ts → TalliedBelow r a ts
fewer r a b ts le h i l u = h i l (omega arith)

module _ (r : Ring) (b : ℕ) (ts : List Tally) (all : TalliedBelow r b ts) where
  -- the entry of choice x: of the last six pans, and of group g
  pub first_below : (x : ℕ) → x < 64 → x < b → TallyOf r x (get_or ts x nothing)
  first_below x h below =
      let low : x % 64 ≡ x = omega arith in
      let high : x / 64 ≡ 0 = omega arith in
      let one : x * 1 ≡ x = omega arith in
      rw (low, high, one) at (all x (omega arith)) below

  pub group_below : (g x : ℕ) → g < 4 → x < 64 → x * 2 ^ (6 * g) < b → TallyOf r (x * 2 ^ (6 * g)) (get_or ts (x + 64 * g) nothing)
  group_below g x l h below =
      let low : (x + 64 * g) % 64 ≡ x = omega arith in
      let high : (x + 64 * g) / 64 ≡ g = omega arith in
      rw (low, high) at (all (x + 64 * g) (omega arith)) below

small : (r : Ring) (k : ℕ) (t : Tally) → TallyOf r k t → Small t
small r k t h =
    let n = length r.weights.now in
    tallied_small _ _ _ (choice_of n k) t (omega (arith, length_choice_of n k, r.ordered.few)) r.ordered.light h

pub sum_fits :
    (r : Ring) (k m : ℕ) (a b : Tally) → TallyOf r k a → TallyOf r m b →
    (a.weight + b.weight < 2 ^ 32) × ((a.pans + b.pans < 2 ^ 32) × ((a.empty + b.empty < 2 ^ 32) × (a.old + b.old < 2 ^ 32)))
sum_fits r k m a b h j = omega (arith, small r k a h, small r m b j)

-- t is the tally of choice k of a ring whose tallies were made; of all of them each entry is known
abbrev pub Of : Tallies → ℕ → Tally → Type 0
Of s k t = Tallied s.ring.weights.now s.ring.ages.now s.ring.rule.age (choice_of (length s.ring.weights.now) k) t

told : (s : Tallies) (b : ℕ) → TalliedBelow s.ring b s.groups
told s b i h below = record { weighs = s.weighs i h; counts = s.counts i h; empties = s.empties i h; olds = s.olds i h }

pub first : (s : Tallies) (x : ℕ) → x < 64 → Of s x (get_or s.groups x nothing)
first s x h = first_below s.ring (x + 1) s.groups (told s (x + 1)) x h (omega arith)

pub group : (s : Tallies) (g x : ℕ) → g < 4 → x < 64 → Of s (x * 2 ^ (6 * g)) (get_or s.groups (x + 64 * g) nothing)
group s g x l h = let b = x * 2 ^ (6 * g) + 1 in group_below s.ring b s.groups (told s b) g x l h (omega arith)

pub room :
    (s : Tallies) (k m : ℕ) (a b : Tally) → Of s k a → Of s m b →
    (a.weight + b.weight < 2 ^ 32) × ((a.pans + b.pans < 2 ^ 32) × ((a.empty + b.empty < 2 ^ 32) × (a.old + b.old < 2 ^ 32)))
room s = sum_fits s.ring

-- a ring's candidates have 24 bits at most
pub candidate : (n k : ℕ) → n ≤ 24 → k < 2 ^ n → k < 2 ^ 24
candidate n k l h = elim (cases_lt n 24) [ inl b ↦ omega (arith, pow_below n 24 b) | inr b ↦ whole (omega arith) ]
  where
    whole : n ≡ 24 → k < 2 ^ 24
    whole e = rw e at h

-- six pans have 64 choices
pub six : (n k : ℕ) → n ≤ 6 → k < 2 ^ n → k < 64
six n k le l = elim (cases_lt n 6) [ inl b ↦ omega (arith, pow_below n 6 b) | inr b ↦ let e : n ≡ 6 = omega arith in rw e at l ]

-- what stands above the ring's bits does not matter
pub within : (n k : ℕ) → choice_of n (k % 2 ^ n) ≡ choice_of n k
within n k = let e : k / 2 ^ n * 2 ^ n + k % 2 ^ n ≡ k = omega (arith, div-add-mod' k (2 ^ n)) in sym (rw e at (choice_of_high n (k / 2 ^ n) (k % 2 ^ n)))

-- a block within them has 24 free pans at most
pub narrow : (n k t : ℕ) → k + 2 ^ t ≤ 2 ^ n → t ≤ n
narrow n k t h = elim (cases_lt n t) [ inl b ↦ absurd (omega (arith, pow_below n t b)) | inr b ↦ b ]

-- a number and the zeros at its end are a block within the candidates
pub block : (n k t : ℕ) → t ≤ count_trailing_zeros 64 k → t ≤ n → k < 2 ^ n → (k % 2 ^ t ≡ 0) × (k + 2 ^ t ≤ 2 ^ n)
block n k t zeros free h =
    let q = zeros_multiple 64 k t zeros in (
      rw (q.1, ← add-zero (q.0 * 2 ^ t)) (mod_low q.0 t 0 (pow_pos t)),
      rw q.1 (block_within q.0 t n free (rw q.1 at h)),
    )
