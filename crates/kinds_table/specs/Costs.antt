-- What the choices of some kinds' pans weigh and cost, and what a least cost is. Assumes nothing: these are definitions.
--   never        more than any choice costs
--   Lot          the pans, or those from some pan on: the kind of each, what lies in it, how long it has waited; and from
--                which age on a pan is old
--   from         the pans of a lot from pan i on
--   gains        what it costs to open each of n pans: a pan by itself costs the more the further back it stands, and two
--                pans cost more than one, wherever they stand
--   on_kinds     the sum of a number of each pan over the opened pans of some kinds
--   lawful       no empty pan of these kinds is opened, and no old one stays shut
--   is           just this kind
--   below        the kinds before this one
--   cost         what a choice costs, over the pans of some kinds
--   Makes        a choice that is lawful over some kinds, and in which these weigh x
--   Least        y is the least cost of all that are of some sort; `never`: nothing is
use Rattle.std.specs.Prelude.{◌≡◌, ℕ, zero, suc, ◌+◌, ◌-◌, ◌^◌, ◌<◌, ◌≤◌, Bool, true, ◌&&◌, List, [], ◌∷◌, length, drop, ◌==◌, nat_le, nat_lt, if◌then◌else◌}
use Rattle.choices.specs.Choice.{Choice}

abbrev pub never : ℕ
never = 2 ^ 29

pub record Lot : Type 0 where
  pub old : ℕ
  pub kinds : List ℕ
  pub weights : List ℕ
  pub ages : List ℕ

abbrev pub from : Lot → ℕ → Lot
from l i = record { old = l.old; kinds = drop i l.kinds; weights = drop i l.weights; ages = drop i l.ages }

abbrev pub gains : ℕ → List ℕ
gains zero = []
gains (suc n) = (2 ^ 24 - 2 ^ n) ∷ gains n

abbrev pub on_kinds : (ℕ → Bool) → (kinds numbers : List ℕ) → Choice → ℕ
on_kinds on [] xs cs = 0
on_kinds on (q ∷ ks) [] cs = 0
on_kinds on (q ∷ ks) (x ∷ xs) [] = 0
on_kinds on (q ∷ ks) (x ∷ xs) (c ∷ cs) = (if c && on q then x else 0) + on_kinds on ks xs cs

abbrev pub lawful : (ℕ → Bool) → ℕ → (kinds weights ages : List ℕ) → Choice → Bool
lawful on old [] ws as' cs = true
lawful on old (q ∷ ks) [] as' cs = true
lawful on old (q ∷ ks) (w ∷ ws) [] cs = true
lawful on old (q ∷ ks) (w ∷ ws) (a ∷ as') [] = true
lawful on old (q ∷ ks) (w ∷ ws) (a ∷ as') (c ∷ cs) =
    (if on q then (if c then nat_le 1 w else nat_lt a old) else true) && lawful on old ks ws as' cs

abbrev pub is : ℕ → ℕ → Bool
is k q = q == k

abbrev pub below : ℕ → ℕ → Bool
below k q = nat_lt q k

abbrev pub cost : (ℕ → Bool) → Lot → Choice → ℕ
cost on l cs = on_kinds on l.kinds (gains (length l.weights)) cs

pub record Makes (on : ℕ → Bool) (l : Lot) (x : ℕ) (cs : Choice) : Type 0 where
  pub whole : length cs ≡ length l.weights
  pub does : lawful on l.old l.kinds l.weights l.ages cs ≡ true
  pub weighs : on_kinds on l.kinds l.weights cs ≡ x

pub record Least {X : Type 0} (Is : X → Type 0) (price : X → ℕ) (y : ℕ) : Type 0 where
  pub cap : y ≤ never
  pub low : (x : X) → Is x → y ≤ price x
  pub some : y < never → (x : X) × Is x × (price x ≡ y)
