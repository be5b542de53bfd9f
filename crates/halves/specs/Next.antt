-- Two halves and the pans before them, and the next choice among them. Assumes nothing: these are definitions.
--   Filled       the entries are those of the pans before the halves, of the front half and of the back half
--   Allowed      a choice by the ways, of at most so many pans, from a place on
--   Next         the first place from `from` on, below `to`, of an allowed choice; or that there is none
use Rattle.std.specs.Prelude.{◌≡◌, ℕ, ◌+◌, ◌<◌, ◌≤◌, true, List, length, Some, None, Option}
use Rattle.choices.specs.Choice.{Choice, opened}
use Rattle.halves_places.specs.Place.{by_ways, place}
use Rattle.halves.specs.Entries.{before, half_of}
use Rattle.halves.specs.Half.{Half}
use Rattle.halves_places.specs.declared.way.Way.{Way}
use Rattle.halves.specs.declared.filled.Halves.{Halves}

pub record Filled (ws : List ℕ) (vs : List Way) (s : Halves) : Type 0 where
  pub tops : Half s.bounds ws vs 0 (before (length ws)) s.tops s.top
  pub front : Half s.bounds ws vs (before (length ws)) (half_of (length ws)) s.lists.front.now (length s.lists.front.now)
  pub back : Half s.bounds ws vs (before (length ws) + half_of (length ws)) (half_of (length ws)) s.lists.back.now (length s.lists.back.now)

pub record Allowed (limit : ℕ) (ws : List ℕ) (vs : List Way) (from : ℕ) (cs : Choice) : Type 0 where
  pub ways : by_ways vs cs ≡ true
  pub few : opened cs ≤ limit
  pub enough : from ≤ place 0 ws cs

pub record First (limit : ℕ) (ws : List ℕ) (vs : List Way) (from to x : ℕ) : Type 0 where
  pub choice : Choice
  pub allowed : Allowed limit ws vs from choice
  pub at : place 0 ws choice ≡ x
  pub below : x < to
  pub least : (cs : Choice) → Allowed limit ws vs from cs → x ≤ place 0 ws cs

abbrev pub Next : ℕ → List ℕ → List Way → ℕ → ℕ → Option ℕ → Type 0
Next limit ws vs from to None = (cs : Choice) → Allowed limit ws vs from cs → to ≤ place 0 ws cs
Next limit ws vs from to (Some x) = First limit ws vs from to x
