-- What a place has to tell of its choice. Assumes nothing: these are definitions.
--   part      the choice whose sums are entry i of the groups: choice x of group g is entry x + 64 * g; group 0 is the last six
--             pans
--   told      the choice of n pans that a place tells of: its pans that stay shut are the place's lowest bits
--   passes_by the choice that a place tells of opens few enough pans and keeps the windows
--   passes    the same, by a ring's rule and windows
--   Between   of each kind a choice has no less than the barest choice and no more than the fullest
--   Useless   no place is `ok` that is x and the place of any choice of the last `free` pans, added
use Rattle.std.specs.Prelude.{◌≡◌, ℕ, ◌+◌, ◌-◌, ◌*◌, ◌/◌, ◌%◌, ◌^◌, ◌<◌, ◌≤◌, Bool, false, ◌&&◌, List, length, nat_le}
use Rattle.choices.specs.Choice.{Choice}
use Rattle.choices.specs.Numbered.{choice_of}
use Rattle.halves_places.specs.Place.{pans_in}
use Rattle.kinds.specs.Kinds.{in_windows, weight_of_kind}
use Rattle.kinds.specs.declared.mixed.MixedRing.{MixedRing}
use Rattle.kinds.specs.declared.mixed.Window.{Window}

abbrev pub part : ℕ → ℕ
part i = i % 64 * 2 ^ (6 * (i / 64))

abbrev pub told : ℕ → ℕ → Choice
told n x = choice_of n (2 ^ n - 1 - x % 2 ^ n)

abbrev pub passes_by : ℕ → List Window → (kinds weights : List ℕ) → ℕ → Bool
passes_by limit vs ks ws x = nat_le (pans_in x) limit && in_windows 0 vs ks ws (told (length ws) x)

abbrev pub passes : MixedRing → ℕ → Bool
passes m = passes_by m.ring.rule.pans m.windows.now m.kinds.now m.ring.weights.now

abbrev pub Between : (kinds weights : List ℕ) → (barest fullest : ℕ) → Choice → Type 0
Between ks ws barest fullest cs =
    (k : ℕ) → (weight_of_kind k ks ws (choice_of (length ws) barest) ≤ weight_of_kind k ks ws cs) × (weight_of_kind k ks ws cs ≤ weight_of_kind k ks ws (choice_of (length ws) fullest))

abbrev pub Useless : (ℕ → Bool) → (x free : ℕ) → Type 0
Useless ok x free = (b : ℕ) → b % 2 ^ 24 < 2 ^ free → ok (x + b) ≡ false
