-- What sweeps over two lists of places find. Assumes nothing: these are definitions.
--   Any          two entries, however many pans they open
--   Meets        two entries, of the back and the front list, that open as many pans as the band says
--   Few          two entries that together open at most `limit` pans
--   Pair         an entry of each list that are `ok` together and have the sum x, which is `from` or more
--   LeastSum     the least sum, from `from` on and below `to`, of an entry of each list that are `ok`; `to`: there is none
--   Triple       the same as Pair of one of the first k tops and an entry of each list
--   LeastOf      the same as LeastSum of one of the first k tops and an entry of each list
--   Whatever     a top and two entries, however many pans they open
--   Together     a top and two entries that together open at most `limit` pans
--   Apart        the counts of pans in a top and an entry of each list add up in their sum
use Rattle.std.specs.Prelude.{◌≡◌, ℕ, ◌+◌, ◌<◌, ◌≤◌, List, length, slice_index, slice_index_or}
use Rattle.halves_places.specs.Place.{pans_in}
use Rattle.halves_sweeps.specs.declared.band.Band.{Band}

abbrev pub Any : ℕ → ℕ → Type 0
Any a b = Unit {0}

abbrev pub Meets : Band → ℕ → ℕ → Type 0
Meets d a b = (pans_in a ≡ d.count) × (pans_in b ≤ d.rest)

abbrev pub Few : ℕ → ℕ → ℕ → Type 0
Few limit a b = pans_in a + pans_in b ≤ limit

pub record Pair (ok : ℕ → ℕ → Type 0) (fs bs : List ℕ) (from x : ℕ) : Type 0 where
  pub p : ℕ
  pub q : ℕ
  pub front : p < length fs
  pub back : q < length bs
  pub right : ok (slice_index bs q) (slice_index fs p)
  pub enough : from ≤ x
  pub adds : slice_index_or fs p 0 + slice_index bs q ≡ x

pub record LeastSum (ok : ℕ → ℕ → Type 0) (fs bs : List ℕ) (from to x : ℕ) : Type 0 where
  pub high : x ≤ to
  pub least : (p q : ℕ) → p < length fs → q < length bs → ok (slice_index bs q) (slice_index fs p) → from ≤ slice_index fs p + slice_index bs q → x ≤ slice_index fs p + slice_index bs q
  pub found : x < to → Pair ok fs bs from x

pub record Triple (ok : ℕ → ℕ → ℕ → Type 0) (k : ℕ) (ts fs bs : List ℕ) (from x : ℕ) : Type 0 where
  pub t : ℕ
  pub p : ℕ
  pub q : ℕ
  pub top : t < k
  pub front : p < length fs
  pub back : q < length bs
  pub right : ok (slice_index ts t) (slice_index bs q) (slice_index fs p)
  pub enough : from ≤ x
  pub adds : slice_index_or ts t 0 + (slice_index fs p + slice_index bs q) ≡ x

pub record LeastOf (ok : ℕ → ℕ → ℕ → Type 0) (k : ℕ) (ts fs bs : List ℕ) (from to x : ℕ) : Type 0 where
  pub high : x ≤ to
  pub least : (t p q : ℕ) → t < k → p < length fs → q < length bs → ok (slice_index ts t) (slice_index bs q) (slice_index fs p) → from ≤ slice_index ts t + (slice_index fs p + slice_index bs q) → x ≤ slice_index ts t + (slice_index fs p + slice_index bs q)
  pub found : x < to → Triple ok k ts fs bs from x

abbrev pub Whatever : ℕ → ℕ → ℕ → Type 0
Whatever e a b = Unit {0}

abbrev pub Together : ℕ → ℕ → ℕ → ℕ → Type 0
Together limit e a b = pans_in e + (pans_in a + pans_in b) ≤ limit

abbrev pub Apart : List ℕ → List ℕ → List ℕ → Type 0
Apart ts fs bs = (t p q : ℕ) → t < length ts → p < length fs → q < length bs → pans_in (slice_index ts t + (slice_index fs p + slice_index bs q)) ≡ pans_in (slice_index ts t) + (pans_in (slice_index bs q) + pans_in (slice_index fs p))
