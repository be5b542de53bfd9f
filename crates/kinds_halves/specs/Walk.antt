-- What a walk over two sorted lists finds. Assumes nothing: these are definitions.
--   Reached        the back list's entries from `at` to q are too small beside a top and a front entry, and the next is not
--   FirstPassing   the least sum that is `ok`, of a top, a front entry and an entry of the back list from `at` on, below `to`
--   Beside         the same beside a top, of all entries of both lists, from `from` on; `to`: there is none
--   Passing        a top and two entries whose sum is `ok`
--   LeastPassing   the same as Beside, of the first k tops
use Rattle.std.specs.Prelude.{◌≡◌, ℕ, ◌+◌, ◌<◌, ◌≤◌, Bool, true, List, length, slice_index}
use Rattle.halves_sweeps.specs.Sweep.{LeastOf}

pub record Reached (top front : ℕ) (bs : List ℕ) (at from q : ℕ) : Type 0 where
  pub later : at ≤ q
  pub within : q ≤ length bs
  pub short : (j : ℕ) → at ≤ j → j < q → top + (front + slice_index bs j) < from
  pub enough : q < length bs → from ≤ top + (front + slice_index bs q)

pub record FirstPassing (ok : ℕ → Bool) (top front : ℕ) (bs : List ℕ) (at to x : ℕ) : Type 0 where
  pub high : x ≤ to
  pub least : (q : ℕ) → at ≤ q → q < length bs → ok (top + (front + slice_index bs q)) ≡ true → x ≤ top + (front + slice_index bs q)
  pub found : x < to → (q : ℕ) × (at ≤ q) × (q < length bs) × (ok x ≡ true) × (top + (front + slice_index bs q) ≡ x)

pub record Beside (ok : ℕ → Bool) (top : ℕ) (fs bs : List ℕ) (from to x : ℕ) : Type 0 where
  pub high : x ≤ to
  pub least : (p q : ℕ) → p < length fs → q < length bs → ok (top + (slice_index fs p + slice_index bs q)) ≡ true → from ≤ top + (slice_index fs p + slice_index bs q) → x ≤ top + (slice_index fs p + slice_index bs q)
  pub found : x < to → (p : ℕ) × (q : ℕ) × (p < length fs) × (q < length bs) × (ok x ≡ true) × (from ≤ x) × (top + (slice_index fs p + slice_index bs q) ≡ x)

abbrev pub Passing : (ℕ → Bool) → ℕ → ℕ → ℕ → Type 0
Passing ok e a b = ok (e + (b + a)) ≡ true

abbrev pub LeastPassing : (ℕ → Bool) → ℕ → (tops front back : List ℕ) → (from to x : ℕ) → Type 0
LeastPassing ok = LeastOf (Passing ok)
