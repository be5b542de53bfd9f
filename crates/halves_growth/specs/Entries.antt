-- The entries of a part of the pans as it takes in one more pan. Assumes nothing: these are definitions.
--   Rises        the first n entries are sorted
--   Sorted       the same, and they are below 2 ^ 62, so that sums fit
--   Holds        x is among the first n entries
--   Below        of the first n entries, the first r and no others stay below `to` when they are raised by `gain`
--   Merged       the first n + m entries are the old n and copies of the first m of them, raised by `gain`, sorted
--   Opening      the pan is opened beside the first m of the n entries: all that stay below `to`, if it may be opened
--   Grown        the first n' entries are the old n, if the pan is young, and those with the pan opened, if it may be, but
--                for those that are not below `to`
use Rattle.std.specs.Prelude.{◌≡◌, ℕ, ◌+◌, ◌^◌, ◌<◌, ◌≤◌, true, ◌⊎◌, List, slice_index}
use Rattle.halves_places.specs.declared.way.Way.{Way}

abbrev pub Rises : List ℕ → ℕ → Type 0
Rises es n = (p q : ℕ) → p ≤ q → q < n → slice_index es p ≤ slice_index es q

pub record Sorted (es : List ℕ) (n : ℕ) : Type 0 where
  pub rises : Rises es n
  pub low : (p : ℕ) → p < n → slice_index es p < 2 ^ 62

abbrev pub Holds : List ℕ → ℕ → ℕ → Type 0
Holds es n x = (q : ℕ) × (q < n) × (slice_index es q ≡ x)

pub record Below (es : List ℕ) (n gain to r : ℕ) : Type 0 where
  pub few : r ≤ n
  pub low : (p : ℕ) → p < r → slice_index es p + gain < to
  pub high : (p : ℕ) → r ≤ p → p < n → to ≤ slice_index es p + gain

pub record Merged (old es : List ℕ) (n m gain : ℕ) : Type 0 where
  pub rises : Rises es (n + m)
  pub keeps : (p : ℕ) → p < n → Holds es (n + m) (slice_index old p)
  pub adds : (p : ℕ) → p < m → Holds es (n + m) (slice_index old p + gain)
  pub only : (q : ℕ) → q < n + m → Holds old n (slice_index es q) ⊎ ((p : ℕ) × (p < m) × (slice_index old p + gain ≡ slice_index es q))

pub record Opening (to : ℕ) (v : Way) (gain : ℕ) (es : List ℕ) (n m : ℕ) : Type 0 where
  pub few : m ≤ n
  pub opens : 0 < m → v.opens ≡ true
  pub all : v.opens ≡ true → (p : ℕ) → p < n → slice_index es p + gain < to → p < m

pub record Grown (to : ℕ) (v : Way) (gain : ℕ) (old es : List ℕ) (n n' : ℕ) : Type 0 where
  pub few : n' ≤ n + n
  pub rises : Rises es n'
  pub keeps : v.young ≡ true → (p : ℕ) → p < n → Holds es n' (slice_index old p)
  pub adds : v.opens ≡ true → (p : ℕ) → p < n → slice_index old p + gain < to → Holds es n' (slice_index old p + gain)
  pub only : (q : ℕ) → q < n' → ((v.young ≡ true) × Holds old n (slice_index es q)) ⊎ ((v.opens ≡ true) × ((p : ℕ) × (p < n) × (slice_index old p + gain ≡ slice_index es q)))
