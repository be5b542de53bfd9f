-- What holds of every kind of bag. Assumes nothing: these are definitions.
--   Lawful   an allowed choice opens a pan, no empty one and every old one, and its bag is within the kind's least and top; a
--            bag leaves the kind in order for the bags that are left, with the same age, least and top
use Rattle.std.specs.Prelude.{◌≡◌, ℕ, suc, ◌≤◌, true, length}
use Rattle.choices.specs.Choice.{Choice, weight_of, opened}
use Rattle.choices.specs.Stand.{Stand, May, Allowed}
use Rattle.choices.specs.declared.limits.TheConstants.{LIMIT}

pub record Lawful {K : Type 0} (allows : K → May) (age least top : K → ℕ) (after : K → (weight : ℕ) → K) (ready : K → (pans bags : ℕ) → Type 0) : Type 0 where
  pub sound : (k : K) (s : Stand) (cs : Choice) → allows k s cs ≡ true → Allowed (age k) (least k) (top k) s cs
  pub opens : (k : K) (s : Stand) (cs : Choice) → ready k (length s.weights) 1 → allows k s cs ≡ true → 1 ≤ opened cs
  pub old : (k : K) (n m : ℕ) → ready k n m → age k ≤ LIMIT
  pub one : (k : K) (n m : ℕ) → ready k n (suc m) → ready k n 1
  pub goes_on : (k : K) (s : Stand) (cs : Choice) (m : ℕ) → ready k (length s.weights) (suc m) → allows k s cs ≡ true → ready (after k (weight_of s.weights cs)) (length s.weights) m
  pub same_age : (k : K) (w : ℕ) → age (after k w) ≡ age k
  pub same_least : (k : K) (w : ℕ) → least (after k w) ≡ least k
  pub same_top : (k : K) (w : ℕ) → top (after k w) ≡ top k
