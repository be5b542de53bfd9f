-- The old pans added up pan by pan: the sums so far, and what is left, make up the whole.
use Rattle.std.proofs.Common.{◌≡◌, ℕ, suc, ◌+◌, ◌*◌, ◌^◌, ◌<◌, ◌≤◌, true, false, ◌&&◌, leb, List, ◌∷◌, length, get_or, add-one, arith}
use mathlib.Core.Bool.{and_assoc}
use native.Mathlib.Nat.{pow-succ'}
use Rattle.std.proofs.lemmas.Bool.{le-ltb, lt-ltb}
use Rattle.choices.specs.Choice.{weight_of, opened, none_empty}
use Rattle.choices.proofs.Numbers.{marks_more}
use Rattle.choices.specs.Numbered.{number_of}
use Rattle.exact.specs.Pans.{only_old}
use Rattle.exact.specs.declared.old.OldPans.{OldPans}

-- the pans before i are seen, those in us and vs are left
pub record SummingOld (old : ℕ) (ws as' us vs : List ℕ) (i : ℕ) (d : OldPans) : Type 0 where
  pub left : i + length us ≤ 24
  pub paired : length vs ≡ length us
  pub each : (j : ℕ) → get_or us j 0 ≤ 1000000
  pub few : d.pans ≤ i
  pub light : d.weight ≤ 1000000 * i
  pub small : d.number < 2 ^ i
  pub weighs : d.weight + weight_of us (only_old old vs) ≡ weight_of ws (only_old old as')
  pub counts : d.pans + opened (only_old old vs) ≡ opened (only_old old as')
  pub numbers : d.number + 2 ^ i * number_of (only_old old vs) ≡ number_of (only_old old as')
  pub fills : (d.filled && none_empty us (only_old old vs)) ≡ none_empty ws (only_old old as')

double : (i : ℕ) → 2 ^ (i + 1) ≡ 2 * 2 ^ i
double i = rw (add-one i) (pow-succ' 2 i)

module _
    {old : ℕ} {ws as' us₁ vs₁ us vs : List ℕ} {w a i j pan : ℕ} {d : OldPans} (h₁ : SummingOld old ws as' us₁ vs₁ i d)
    (turn : ((us₁ ≡ w ∷ us) × (vs₁ ≡ a ∷ vs)) × (pan ≡ i) × (j ≡ i + 1) × (pan + 1 < 2 ^ 64))
  where
    h : SummingOld old ws as' (w ∷ us) (a ∷ vs) i d
    h = rw (turn.0.0, turn.0.1) at h₁

    -- the sums have room
    pub summing_room : (d.weight + w ≤ 24000000) × (d.pans + 1 ≤ 24) × (pan < 24) × (d.number < 2 ^ pan)
    summing_room = (omega (arith, h.light, h.each 0, h.left), omega (arith, h.few, h.left), omega (arith, turn.1, h.left), rw turn.1 h.small)

    pub summing_old :
        {e : OldPans} → old ≤ a → e.weight ≡ d.weight + w → e.pans ≡ d.pans + 1 → e.number ≡ d.number + 2 ^ pan → e.filled ≡ (d.filled && leb 1 w) →
        SummingOld old ws as' us vs j e
    summing_old is_old weight pans number filled =
        let k = le-ltb a old is_old in
        let weighs = rw k at h.weighs in
        let counts = rw k at h.counts in
        let numbers = rw k at h.numbers in
        let fills = rw k at h.fills in
        let at_pan : pan ≡ i = turn.1 in
        let n = rw at_pan at number in
        rw turn.2
        (record {
          left = omega (arith, h.left);
          paired = omega (arith, h.paired);
          each = λ q. h.each (suc q);
          few = omega (arith, h.few);
          light = omega (arith, h.light, h.each 0);
          small = omega (arith, h.small, double i);
          weighs = omega (arith, weighs);
          counts = omega (arith, counts);
          numbers = omega (arith, numbers, marks_more i d.number (number_of (only_old old vs)) true);
          fills = rw (filled, and_assoc) fills;
        })

    pub summing_young : a < old → SummingOld old ws as' us vs j d
    summing_young young =
        let k = lt-ltb a old young in
        let weighs = rw k at h.weighs in
        let counts = rw k at h.counts in
        let numbers = rw k at h.numbers in
        let fills = rw k at h.fills in
        rw turn.2
        (record {
          left = omega (arith, h.left);
          paired = omega (arith, h.paired);
          each = λ q. h.each (suc q);
          few = omega (arith, h.few);
          light = omega (arith, h.light);
          small = omega (arith, h.small, double i);
          weighs = omega (arith, weighs);
          counts = omega (arith, counts);
          numbers = omega (arith, numbers, marks_more i d.number (number_of (only_old old vs)) false);
          fills = fills;
        })
