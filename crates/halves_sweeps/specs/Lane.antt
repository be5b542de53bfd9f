-- Sweeps as far as they have come. Assumes nothing: these are definitions.
--   Swept        what a sweep knows: each sum of a settled entry is too small, or no less than the least sum so far
--   Fresh        a sweep that has not begun, for sums that are from `from` on and below `to` together with a top
--   Strode       a sweep k steps further on
--   Free         a sweep that can take at least k steps
--   Strides      four sweeps, each k steps further on
use Rattle.std.specs.Prelude.{◌≡◌, ℕ, ◌+◌, ◌-◌, ◌<◌, ◌≤◌, ◌⊎◌, List, length, slice_index, slice_index_or}
use Rattle.halves_sweeps.specs.Sweep.{Any, Pair}
use Rattle.halves_sweeps.specs.declared.lane.Lane.{Lane}

pub record Swept (fs bs : List ℕ) (x : Lane) : Type 0 where
  pub behind : x.at ≤ length bs
  pub front : x.left ≤ length fs
  pub high : x.found ≤ x.to
  pub passed : (p q : ℕ) → p < length fs → q < length bs → (q < x.at) ⊎ (x.left ≤ p) → x.from ≤ slice_index fs p + slice_index bs q → x.found ≤ slice_index fs p + slice_index bs q
  pub found : x.found < x.to → Pair Any fs bs x.from x.found

abbrev pub Fresh : ℕ → ℕ → ℕ → ℕ → Lane → Type 0
Fresh top front from to x = x ≡ record { from = from - top; to = to - top; at = 0; left = front; found = to - top }

pub record Strode (fs bs : List ℕ) (x y : Lane) (k : ℕ) : Type 0 where
  pub from : y.from ≡ x.from
  pub to : y.to ≡ x.to
  pub up : x.at ≤ y.at
  pub down : y.left ≤ x.left
  pub steps : y.at + x.left ≡ x.at + y.left + k
  pub swept : Swept fs bs y

pub record Free (fs bs : List ℕ) (k : ℕ) (x : Lane) : Type 0 where
  pub swept : Swept fs bs x
  pub behind : x.at + k ≤ length bs
  pub front : k ≤ x.left

pub record Strides (fs bs : List ℕ) (xs ys : List Lane) (k : ℕ) : Type 0 where
  pub long : length ys ≡ 4
  pub each : (i : ℕ) (d : Lane) → i < 4 → Strode fs bs (slice_index_or xs i d) (slice_index_or ys i d) k
