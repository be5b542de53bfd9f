-- A part of the pans as its entries tell it. Assumes nothing: these are definitions.
--   Part         the first n entries are the places of the part's choices by the ways, sorted, with b pans behind and each
--                raised by r; those that are not below `to` may be left out
use Rattle.std.specs.Prelude.{◌≡◌, ℕ, ◌+◌, ◌^◌, ◌<◌, ◌≤◌, true, List, length, slice_index}
use Rattle.choices.specs.Choice.{Choice}
use Rattle.halves_places.specs.Place.{by_ways, place}
use Rattle.halves_places.specs.declared.way.Way.{Way}
use Rattle.halves_growth.specs.Entries.{Rises, Holds}

pub record Part (b r to : ℕ) (ws : List ℕ) (vs : List Way) (es : List ℕ) (n : ℕ) : Type 0 where
  pub few : n ≤ 2 ^ length ws
  pub rises : Rises es n
  pub every : (cs : Choice) → by_ways vs cs ≡ true → place b ws cs + r < to → Holds es n (place b ws cs + r)
  pub only : (q : ℕ) → q < n → (cs : Choice) × (by_ways vs cs ≡ true) × (place b ws cs + r ≡ slice_index es q)
