-- The windows of the kinds, as a rule in numbers has them behind the four. Assumes nothing: these are definitions.
--   window_at    the window of a kind: two numbers for each
--   windows_at   so many windows, from that of a kind on
--   windows_in   those of all kinds that the rule has
--   mixed_by     which choices are allowed by a rule, the windows of its kinds, and the kind of each pan
use Rattle.std.specs.Prelude.{ℕ, zero, suc, ◌+◌, ◌*◌, List, [], ◌∷◌, slice_index}
use Rattle.choices.specs.Stand.{May}
use Rattle.choices.specs.declared.rule.Rule.{Rule}
use Rattle.kinds.specs.Kinds.{mixes}
use Rattle.kinds.specs.declared.mixed.Window.{Window}
use Rattle.mixing.specs.Refusals.{many}

abbrev pub window_at : List ℕ → (kind : ℕ) → Window
window_at rs k = record { least = slice_index rs (2 * k + 4); most = slice_index rs (2 * k + 5) }

abbrev pub windows_at : List ℕ → (kind many : ℕ) → List Window
windows_at rs k zero = []
windows_at rs k (suc m) = window_at rs k ∷ windows_at rs (k + 1) m

abbrev pub windows_in : List ℕ → List Window
windows_in rs = windows_at rs 0 (many rs)

abbrev pub mixed_by : Rule → List Window → (kinds : List ℕ) → May
mixed_by r vs ks s = mixes r vs ks s.weights s.ages
