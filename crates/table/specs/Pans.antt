-- What the pans of a ring are to its table. A pan is old where it has waited `old` bags or more; all others are free.
-- Assumes nothing: these are definitions.
--   old_weight_of    what the old pans weigh
--   old_count_of     how many they are
--   free_weight      what the free pans weigh
--   free_at          what pan i adds to that: 0 if it is old or not there
--   free_before      what the free pans before pan i weigh
--   heaviest         what the heaviest free pan weighs
--   none_old_empty   no old pan is empty
--   span_of          the most that the free pans of a bag may weigh: all of them, or what is left up to target + above
--   pairs_of         how many pairs so many pans make; where their number is odd, the last pair has one pan
--   width_of         the bytes of whole blocks of 64 that hold a byte for each weight from 0 to `most`
--   pad_of           as many bytes as two pans can reach back, or the width of a row if that is less
--   row_bytes        the bytes that are asked for a row: its width, and so many in front of it
--   table_bytes      the bytes that are asked for a table: a row for no pan at all and one for each two pans
--   most_bytes       the most that is asked for a table under a rule, of so many pans
use Rattle.std.specs.Prelude.{ℕ, ◌+◌, ◌-◌, ◌*◌, ◌/◌, min, max, Bool, true, cond, ◌&&◌, ◌||◌, List, [], ◌∷◌, length, drop, nat_le, nat_lt, slice_index}
use Rattle.choices.specs.declared.rule.Rule.{Rule}

abbrev pub old_weight_of : ℕ → (weights ages : List ℕ) → ℕ
old_weight_of old [] as' = 0
old_weight_of old (w ∷ ws) [] = 0
old_weight_of old (w ∷ ws) (a ∷ as') = cond (nat_lt a old) 0 w + old_weight_of old ws as'

abbrev pub old_count_of : ℕ → (ages : List ℕ) → ℕ
old_count_of old [] = 0
old_count_of old (a ∷ as') = cond (nat_lt a old) 0 1 + old_count_of old as'

abbrev pub free_weight : ℕ → (weights ages : List ℕ) → ℕ
free_weight old [] as' = 0
free_weight old (w ∷ ws) [] = 0
free_weight old (w ∷ ws) (a ∷ as') = cond (nat_lt a old) w 0 + free_weight old ws as'

abbrev pub free_at : ℕ → (weights ages : List ℕ) → (pan : ℕ) → ℕ
free_at old ws as' i = cond (nat_lt (slice_index as' i) old) (slice_index ws i) 0

abbrev pub free_before : ℕ → (weights ages : List ℕ) → (pan : ℕ) → ℕ
free_before old ws as' i = free_weight old ws as' - free_weight old (drop i ws) (drop i as')

abbrev pub heaviest : ℕ → (weights ages : List ℕ) → ℕ
heaviest old [] as' = 0
heaviest old (w ∷ ws) [] = 0
heaviest old (w ∷ ws) (a ∷ as') = max (cond (nat_lt a old) w 0) (heaviest old ws as')

abbrev pub none_old_empty : ℕ → (weights ages : List ℕ) → Bool
none_old_empty old [] as' = true
none_old_empty old (w ∷ ws) [] = true
none_old_empty old (w ∷ ws) (a ∷ as') = (nat_lt a old || nat_le 1 w) && none_old_empty old ws as'

unfoldable pub span_of : Rule → (weights ages : List ℕ) → ℕ
span_of r ws as' = min (r.target + r.above - old_weight_of r.age ws as') (free_weight r.age ws as')

abbrev pub pairs_of : ℕ → ℕ
pairs_of pans = (pans + 1) / 2

abbrev pub width_of : ℕ → ℕ
width_of most = 64 * (most / 64 + 1)

unfoldable pub pad_of : (most heavy : ℕ) → ℕ
pad_of most heavy = min (width_of most) (width_of (2 * heavy))

unfoldable pub row_bytes : (most heavy : ℕ) → ℕ
row_bytes most heavy = pad_of most heavy + width_of most

unfoldable pub table_bytes : Rule → (weights ages : List ℕ) → ℕ
table_bytes r ws as' = row_bytes (span_of r ws as') (heaviest r.age ws as') * (pairs_of (length ws) + 1)

abbrev pub most_bytes : Rule → (pans : ℕ) → ℕ
most_bytes r n = 2 * width_of (r.target + r.above) * (pairs_of n + 1)
