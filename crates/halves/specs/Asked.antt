-- A ring's halves, and the first fitting choice that they have from a place on. Assumes nothing: these are definitions.
--   FirstSum      the first place from `from` on, below the halves' end, that a top and an entry of each half add up to
--   FilledFor     the halves hold every choice that fits the ring's rule
--   FirstFitting  the choice of this place and bag fits, and none that fits comes before it from `from` on
--   FirstFrom     the first fitting choice from `from` on; or that there is none
--   place_of      the place of such a choice
--   NextOf        the place is the next that the ways of the ring's pans allow, as `Next` has it
use Rattle.std.specs.Prelude.{◌≡◌, ℕ, ◌+◌, ◌*◌, ◌^◌, ◌<◌, ◌≤◌, true, List, length, take, max, Some, None, Option, nat_lt}
use Rattle.std.specs.Bool.{then_some}
use Rattle.choices.specs.Choice.{Choice, fits, weight_of}
use Rattle.choices.specs.Numbered.{choice_from, number_of}
use Rattle.choices.specs.declared.rule.Rule.{Rule}
use Rattle.halves_places.specs.Place.{place}
use Rattle.halves_places.specs.Ring.{ways}
use Rattle.halves_sweeps.specs.Sweep.{LeastOf, Together}
use Rattle.halves.specs.Next.{Filled, Next}
use Rattle.halves.specs.declared.filled.Halves.{Halves}
use Rattle.halves.specs.declared.placed.Placed.{Placed}

abbrev pub FirstSum : Halves → ℕ → Option ℕ → Type 0
FirstSum s from o =
    (x : ℕ) × LeastOf (Together s.bounds.limit) (length (take s.top s.tops)) (take s.top s.tops) s.lists.front.now s.lists.back.now from s.bounds.to x
    × (o ≡ then_some (nat_lt x s.bounds.to) x)

pub record FilledFor (r : Rule) (ws as' : List ℕ) (s : Halves) : Type 0 where
  pub filled : Filled ws (ways r.age ws as') s
  pub limit : s.bounds.limit ≡ r.pans
  pub least : s.bounds.least ≡ r.target
  pub to : s.bounds.to ≡ (r.target + r.above + 1) * 2 ^ 29

pub record FirstFitting (r : Rule) (ws as' : List ℕ) (from : ℕ) (p : Placed) : Type 0 where
  pub allowed : fits r ws as' (choice_from (length ws) p.bag.pans) ≡ true
  pub at : place 0 ws (choice_from (length ws) p.bag.pans) ≡ p.place
  pub number : p.bag.pans ≡ number_of (choice_from (length ws) p.bag.pans)
  pub weighs : p.bag.weight ≡ weight_of ws (choice_from (length ws) p.bag.pans)
  pub enough : from ≤ p.place
  pub first : (cs : Choice) → fits r ws as' cs ≡ true → from ≤ place 0 ws cs → p.place ≤ place 0 ws cs

abbrev pub FirstFrom : Rule → (weights ages : List ℕ) → ℕ → Option Placed → Type 0
FirstFrom r ws as' from None = (cs : Choice) → fits r ws as' cs ≡ true → place 0 ws cs < from
FirstFrom r ws as' from (Some p) = FirstFitting r ws as' from p

abbrev pub place_of : Option Placed → Option ℕ
place_of None = None
place_of (Some p) = Some p.place

-- what fits weighs the target at least, and target and above at most
abbrev pub NextOf : Rule → (weights ages : List ℕ) → ℕ → Option Placed → Type 0
NextOf r ws as' from o = Next r.pans ws (ways r.age ws as') (max from (r.target * 2 ^ 29)) ((r.target + r.above + 1) * 2 ^ 29) (place_of o)
