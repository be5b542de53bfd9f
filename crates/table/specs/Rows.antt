-- What the rows of a table hold. Assumes nothing: these are definitions.
--   row_at         byte x of the row whose weight 0 stands at byte `start`
--   back           the row's value at x - weight, or 255 if x < weight
--   joined         the row with one pan more: the least of what it holds at x, and one more than at x - weight
--   Added          for the weights of the blocks from `low` up to `high` the row at `next` in bytes' is the row at `row` in
--                  bytes joined with two pans, and nothing before these blocks has changed
--   first_opens    whether the first of two pans is opened for its weight: the rest then takes fewer pans
--   second_opens   whether the second is, once it is known whether the first is
--   Makes          cs opens every old pan and no empty one, and weighs x more than the old pans
--   Least          k is the least number of pans besides the old ones in such a choice; 255: there is none
--   Row            the row holds the least number for each weight from `from` to `most`
--   Rows           for each i from `first` on, the row of the pans from 2 * i on stands in the bytes with its pad, behind
--                  those of fewer pans. It is right from the least weight that with all free pans before reaches `from`
--   First          of the choices that weigh x more than the old pans, the one of the fewest pans that opens the first pan
--                  that differs
--   Read           that choice has this number
--   LightestAt     x is the least weight from `from` to `most` at which a row holds a count of at most `limit`
--   Lightest       that weight; None: there is none
use Rattle.std.specs.Prelude.{◌≡◌, ℕ, ◌+◌, ◌-◌, ◌*◌, ◌<◌, ◌≤◌, min, Bool, true, false, cond, List, length, drop, Some, None, Option, nat_le, nat_lt, slice_index, slice_index_or}
use Rattle.choices.specs.Choice.{Choice, weight_of, opened, none_empty, keeps_old}
use Rattle.choices.specs.Numbered.{number_of}
use Rattle.order.specs.Order.{first_more}
use Rattle.table.specs.Pans.{old_weight_of, old_count_of, free_before, pairs_of}

abbrev pub row_at : (bytes : List ℕ) (start : ℕ) → ℕ → ℕ
row_at bytes start x = slice_index bytes (start + x)

abbrev pub back : (ℕ → ℕ) → (weight x : ℕ) → ℕ
back row w x = cond (nat_le w x) (row (x - w)) 255

abbrev pub joined : (ℕ → ℕ) → (weight x : ℕ) → ℕ
joined row w x = min (row x) (min (back row w x + 1) 255)

pub record Added (first second row next low high : ℕ) (bytes bytes' : List ℕ) : Type 0 where
  pub same : (j : ℕ) → j < next + 64 * low → slice_index bytes' j ≡ slice_index bytes j
  pub made : (x : ℕ) → 64 * low ≤ x → x < 64 * high → row_at bytes' next x ≡ joined (joined (row_at bytes row) second) first x

-- `whole` is the row of both pans and those behind, `behind` that of those behind alone
abbrev pub first_opens : (whole behind : ℕ → ℕ) (first second x : ℕ) → Bool
first_opens whole behind u v x = nat_lt (back (joined behind v) u x) (whole x)

abbrev pub second_opens : (first_opened : Bool) (whole behind : ℕ → ℕ) (first second x : ℕ) → Bool
second_opens o whole behind u v x = cond o (nat_lt (back behind (u + v) x) (back (joined behind v) u x)) (nat_lt (back behind v x) (whole x))

pub record Makes (old : ℕ) (ws as' : List ℕ) (x : ℕ) (cs : Choice) : Type 0 where
  pub whole : length cs ≡ length ws
  pub filled : none_empty ws cs ≡ true
  pub old_opened : keeps_old old as' cs ≡ true
  pub weighs : weight_of ws cs ≡ old_weight_of old ws as' + x

pub record Least (old : ℕ) (ws as' : List ℕ) (x k : ℕ) : Type 0 where
  pub low : (cs : Choice) → Makes old ws as' x cs → old_count_of old as' + k ≤ opened cs
  pub some : k < 255 → (cs : Choice) × Makes old ws as' x cs × (opened cs ≡ old_count_of old as' + k)

pub record Row (old : ℕ) (ws as' : List ℕ) (from most : ℕ) (row : ℕ → ℕ) : Type 0 where
  pub least : (x : ℕ) → from ≤ x → x ≤ most → Least old ws as' x (row x)

pub record Rows (old : ℕ) (ws as' : List ℕ) (from most pad wide first : ℕ) (bytes : List ℕ) : Type 0 where
  pub row : (i : ℕ) → first ≤ i → i ≤ pairs_of (length ws) →
      Row old (drop (2 * i) ws) (drop (2 * i) as') (from - free_before old ws as' (2 * i)) most (row_at bytes (pad + wide * (pairs_of (length ws) - i)))
  pub blank : (i j : ℕ) → first ≤ i → i ≤ pairs_of (length ws) → j < pad → slice_index bytes (wide * (pairs_of (length ws) - i) + j) ≡ 255

pub record First (old : ℕ) (ws as' : List ℕ) (x : ℕ) (cs : Choice) : Type 0 where
  pub makes : Makes old ws as' x cs
  pub fewest : (ds : Choice) → Makes old ws as' x ds → opened cs ≤ opened ds
  pub first : (ds : Choice) → Makes old ws as' x ds → opened ds ≡ opened cs → first_more ds cs ≡ false

pub record Read (old : ℕ) (ws as' : List ℕ) (x number : ℕ) : Type 0 where
  pub choice : Choice
  pub first : First old ws as' x choice
  pub is : number ≡ number_of choice

pub record LightestAt (bytes : List ℕ) (start from most limit x : ℕ) : Type 0 where
  pub enough : from ≤ x
  pub within : x ≤ most
  pub few : slice_index_or bytes (start + x) 0 ≤ limit
  pub lighter : (y : ℕ) → from ≤ y → y < x → limit < slice_index bytes (start + y)

abbrev pub Lightest : List ℕ → (start from most limit : ℕ) → Option ℕ → Type 0
Lightest bytes start from most limit None = (y : ℕ) → from ≤ y → y ≤ most → limit < slice_index bytes (start + y)
Lightest bytes start from most limit (Some x) = LightestAt bytes start from most limit x
