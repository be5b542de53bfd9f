-- What each kind has in a choice, from what it has in the choice's groups of pans.
use Rattle.std.proofs.Common.{◌≡◌, ℕ, ◌+◌, ◌*◌, ◌/◌, ◌%◌, ◌^◌, ◌<◌, ◌≤◌, [], length, get_or, ap, ◌∙◌, arith}
use Rattle.choices.specs.Numbered.{choice_of}
use Rattle.kinds.specs.Kinds.{weight_of_kind}
use Rattle.kinds_halves.specs.declared.sums.Sums.{Sums}
use Rattle.kinds_halves.proofs.ByKind.{kind_apart, kind_fits}

-- what kind k has in the choice numbered x
abbrev pub of : Sums → ℕ → ℕ → ℕ
of s k x = weight_of_kind k s.mixed.kinds.now s.mixed.ring.weights.now (choice_of (length s.mixed.ring.weights.now) x)

module _ (s : Sums) (k : ℕ) (kind : k < 4) where
  -- the entry of choice x of the last six pans, and of group g
  first : (x : ℕ) → x < 64 → get_or (get_or s.groups x []) k 0 ≡ of s k x
  first x h =
      let low : x % 64 ≡ x = omega arith in
      let high : x / 64 ≡ 0 = omega arith in
      let one : x * 1 ≡ x = omega arith in
      rw (low, high, one) at (s.weighs x k (omega arith) kind)

  group : (g x : ℕ) → g < 4 → x < 64 → get_or (get_or s.groups (x + 64 * g) []) k 0 ≡ of s k (x * 2 ^ (6 * g))
  group g x l h =
      let low : (x + 64 * g) % 64 ≡ x = omega arith in
      let high : (x + 64 * g) / 64 ≡ g = omega arith in
      rw (low, high) at (s.weighs (x + 64 * g) k (omega arith) kind)

  apart : (q t r : ℕ) → r < 2 ^ t → of s k (q * 2 ^ t + r) ≡ of s k (q * 2 ^ t) + of s k r
  apart = kind_apart k s.mixed.kinds.now s.mixed.ring.weights.now (length s.mixed.ring.weights.now)

  -- a choice's four entries
  pub four : (x : ℕ) → x < 2 ^ 24 →
      get_or (get_or s.groups (x / 262144 + 192) []) k 0 + (get_or (get_or s.groups (x / 4096 % 64 + 128) []) k 0 + (get_or (get_or s.groups (x / 64 % 64 + 64) []) k 0 + get_or (get_or s.groups (x % 64) []) k 0)) ≡ of s k x
  four x l =
      let a = x % 64 in
      let b = x / 64 % 64 in
      let d = x / 4096 % 64 in
      let e = x / 262144 in
      let whole : e * 2 ^ 18 + (d * 2 ^ 12 + (b * 2 ^ 6 + a)) ≡ x = omega arith in
      let adds : get_or (get_or s.groups (e + 192) []) k 0 + (get_or (get_or s.groups (d + 128) []) k 0 + (get_or (get_or s.groups (b + 64) []) k 0 + get_or (get_or s.groups a []) k 0)) ≡ of s k (e * 2 ^ 18 + (d * 2 ^ 12 + (b * 2 ^ 6 + a))) =
      omega (
        arith,
        first a (omega arith),
        group 1 b (omega arith) (omega arith),
        group 2 d (omega arith) (omega arith),
        group 3 e (omega arith) (omega arith),
        apart b 6 a (omega arith),
        apart d 12 (b * 2 ^ 6 + a) (omega arith),
        apart e 18 (d * 2 ^ 12 + (b * 2 ^ 6 + a)) (omega arith),
      ) in
      adds ∙ ap (of s k) whole

  pub four_fit : (x : ℕ) → of s k x ≤ 24000000
  four_fit x = kind_fits k s.mixed.kinds.now s.mixed.ring.weights.now x s.mixed.ring.ordered.light s.mixed.ring.ordered.few
