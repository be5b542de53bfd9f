-- What the rows hold, before and after they are joined. Assumes nothing: these are definitions.
--   row_at       the cost at weight x of the row whose weight 0 stands at `start`
--   back         the row's cost at x - weight; `never` if x < weight
--   Capped       no cost is above `never`
--   Tables       the row of each kind holds the least cost for each weight up to the kind's most, of a choice of this kind's
--                pans; before it stands a block of `never`
--   sum_below    the sum of a number of each kind before k
--   Mixing       a choice of the pans of the kinds before k with a weight of each kind between its least and its most
--   Joined       the row of joined kinds holds the least cost for each weight, counted from the least that they all weigh
--   cost_in      a row's cost at v; `never` past its end
--   Sum          y is the least sum of a cost of one row and a cost of another, x further on together
--   FirstAt      the first x from `start` to `span` whose least sum is below a limit, with this sum
--   First        the same; None: there is no such x
use Rattle.std.specs.Prelude.{◌≡◌, ℕ, zero, suc, ◌+◌, ◌-◌, ◌*◌, ◌/◌, ◌<◌, ◌≤◌, List, Some, None, Option, slice_index, slice_index_or, nat_le, if◌then◌else◌}
use Rattle.choices.specs.Choice.{Choice}
use Rattle.kinds_table.specs.Costs.{never, Lot, on_kinds, is, below, cost, Makes, Least}
use Rattle.kinds_table.specs.declared.search.Reached.{Reached}

abbrev pub row_at : (room : List ℕ) (start : ℕ) → ℕ → ℕ
row_at room start x = slice_index room (start + x)

abbrev pub back : (ℕ → ℕ) → (weight x : ℕ) → ℕ
back row w x = if nat_le w x then row (x - w) else never

abbrev pub Capped : List ℕ → Type 0
Capped room = (j : ℕ) → slice_index room j ≤ never

pub record Tables (l : Lot) (most : List ℕ) (kinds wide : ℕ) (room : List ℕ) : Type 0 where
  pub row : (k x : ℕ) → k < kinds → x < 16 * (slice_index most k / 16 + 1) → Least (Makes (is k) l x) (cost (is k) l) (row_at room (wide * k + 16) x)
  pub blank : (k j : ℕ) → k < kinds → j < 16 → slice_index room (wide * k + j) ≡ never
  pub capped : Capped room

abbrev pub sum_below : (ℕ → ℕ) → ℕ → ℕ
sum_below f zero = 0
sum_below f (suc k) = sum_below f k + f k

pub record Mixing (k : ℕ) (l : Lot) (least most : List ℕ) (x : ℕ) (cs : Choice) : Type 0 where
  pub makes : Makes (below k) l x cs
  pub enough : (j : ℕ) → j < k → slice_index least j ≤ on_kinds (is j) l.kinds l.weights cs
  pub within : (j : ℕ) → j < k → on_kinds (is j) l.kinds l.weights cs ≤ slice_index most j

abbrev pub Joined : (k : ℕ) → Lot → (least most : List ℕ) → (span : ℕ) → (ℕ → ℕ) → Type 0
Joined k l least most span row = (u : ℕ) → u ≤ span → Least (Mixing k l least most (sum_below (slice_index least) k + u)) (cost (below k) l) (row u)

abbrev pub cost_in : List ℕ → ℕ → ℕ
cost_in row v = slice_index_or row v never

abbrev pub Sum : (one other : ℕ → ℕ) → (x y : ℕ) → Type 0
Sum one other x y = Least (λ v. v ≤ x) (λ v. one v + other (x - v)) y

pub record FirstAt (one other : ℕ → ℕ) (start span limit : ℕ) (r : Reached) : Type 0 where
  pub enough : start ≤ r.over
  pub within : r.over ≤ span
  pub costs : Sum one other r.over r.cost
  pub few : r.cost < limit
  pub lighter : (x v : ℕ) → start ≤ x → x < r.over → v ≤ x → limit ≤ one v + other (x - v)

abbrev pub First : (one other : ℕ → ℕ) → (start span limit : ℕ) → Option Reached → Type 0
First one other start span limit None = (x v : ℕ) → start ≤ x → x ≤ span → v ≤ x → limit ≤ one v + other (x - v)
First one other start span limit (Some r) = FirstAt one other start span limit r
