-- The ways of a ring's pans, and what a place tells of its choice. Assumes nothing: these are definitions.
--   way          a pan may be opened where something lies in it, and is young where it has waited fewer bags than `old`
--   ways         the ways of all pans
--   neither      the way of a pan that is not there
--   Says         each choice of the pans that has place x has the number and the weight of the bag r
use Rattle.std.specs.Prelude.{◌≡◌, ℕ, false, List, [], ◌∷◌, length, nat_le, nat_lt}
use Rattle.choices.specs.Choice.{Choice, weight_of}
use Rattle.choices.specs.Numbered.{number_of}
use Rattle.order.specs.declared.bag.Bag.{Bag}
use Rattle.halves_places.specs.Place.{place}
use Rattle.halves_places.specs.declared.way.Way.{Way}

abbrev pub way : ℕ → ℕ → ℕ → Way
way old w a = record { opens = nat_le 1 w; young = nat_lt a old }

abbrev pub ways : ℕ → List ℕ → List ℕ → List Way
ways old [] as' = []
ways old (w ∷ ws) [] = []
ways old (w ∷ ws) (a ∷ as') = way old w a ∷ ways old ws as'

abbrev pub neither : Way
neither = record { opens = false; young = false }

abbrev pub Says : List ℕ → ℕ → Bag → Type 0
Says ws x r = (cs : Choice) → length cs ≡ length ws → place 0 ws cs ≡ x → (r.pans ≡ number_of cs) × (r.weight ≡ weight_of ws cs)
