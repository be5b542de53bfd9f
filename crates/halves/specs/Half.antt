-- A part of the pans as its entries tell it. Assumes nothing: these are definitions.
--   Wanted       a choice of all pans by the ways, within the bounds and below their end
--   Half         the first n entries are places of the part's choices in order; every choice that is wanted has one
use Rattle.std.specs.Prelude.{◌≡◌, ℕ, ◌+◌, ◌-◌, ◌^◌, ◌<◌, ◌≤◌, true, List, length, slice_index}
use Rattle.choices.specs.Choice.{Choice}
use Rattle.halves_places.specs.Place.{by_ways, place}
use Rattle.halves_places.specs.declared.way.Way.{Way}
use Rattle.halves_growth.specs.Entries.{Rises, Holds}
use Rattle.halves_sieves.specs.Sieve.{part, Bounded}
use Rattle.halves_sieves.specs.declared.bounds.Bounds.{Bounds}

pub record Wanted (lim : Bounds) (ws : List ℕ) (vs : List Way) (cs : Choice) : Type 0 where
  pub ways : by_ways vs cs ≡ true
  pub bounded : Bounded lim ws cs
  pub below : place 0 ws cs < lim.to

-- of so many pans behind the first `skip`
pub record Half (lim : Bounds) (ws : List ℕ) (vs : List Way) (skip len : ℕ) (es : List ℕ) (n : ℕ) : Type 0 where
  pub few : n ≤ 2 ^ len
  pub rises : Rises es n
  pub every : (cs : Choice) → Wanted lim ws vs cs → Holds es n (place (length ws - (skip + len)) (part skip len ws) (part skip len cs))
  pub only : (q : ℕ) → q < n → (cs : Choice) × (by_ways (part skip len vs) cs ≡ true) × (place (length ws - (skip + len)) (part skip len ws) cs ≡ slice_index es q)
