-- Bags with so much of each kind. Assumes nothing: these are definitions.
--   weight_of_kind   what lies in the opened pans of a kind
--   of_kind          what lies in each pan of a kind, and nothing in the others
--   in_windows       of each kind, from a kind on, at least its least and at most its most lies in the opened pans
--   mixes            a choice fits the rule, and has so much of each kind, kind 0 first
--   no_window        what stands for the window of a kind that has none
--   InWindow         so much of a kind is neither too little nor too much
--   SoMuchOfEach     so much of each kind as its window has it
--   Wider            windows (the second) that leave each kind at least what the others do
use Rattle.std.specs.Prelude.{◌≡◌, ℕ, ◌+◌, ◌<◌, ◌≤◌, Bool, true, ◌&&◌, List, [], ◌∷◌, length, ◌==◌, nat_le, if◌then◌else◌, slice_index_or}
use Rattle.choices.specs.Choice.{Choice, fits}
use Rattle.choices.specs.declared.rule.Rule.{Rule}
use Rattle.kinds.specs.declared.mixed.Window.{Window}

abbrev pub weight_of_kind : ℕ → (kinds weights : List ℕ) → Choice → ℕ
weight_of_kind k [] ws cs = 0
weight_of_kind k (q ∷ ks) [] cs = 0
weight_of_kind k (q ∷ ks) (w ∷ ws) [] = 0
weight_of_kind k (q ∷ ks) (w ∷ ws) (c ∷ cs) = (if c && q == k then w else 0) + weight_of_kind k ks ws cs

abbrev pub of_kind : ℕ → (kinds weights : List ℕ) → List ℕ
of_kind k [] ws = []
of_kind k (q ∷ ks) [] = []
of_kind k (q ∷ ks) (w ∷ ws) = (if q == k then w else 0) ∷ of_kind k ks ws

abbrev pub in_windows : ℕ → List Window → (kinds weights : List ℕ) → Choice → Bool
in_windows k [] ks ws cs = true
in_windows k (v ∷ vs) ks ws cs =
    (nat_le v.least (weight_of_kind k ks ws cs) && nat_le (weight_of_kind k ks ws cs) v.most) && in_windows (k + 1) vs ks ws cs

abbrev pub mixes : Rule → List Window → (kinds weights ages : List ℕ) → Choice → Bool
mixes r vs ks ws as' cs = fits r ws as' cs && in_windows 0 vs ks ws cs

abbrev pub no_window : Window
no_window = record { least = 0; most = 0 }

pub record InWindow (v : Window) (weight : ℕ) : Type 0 where
  pub enough : v.least ≤ weight
  pub within : weight ≤ v.most

abbrev pub SoMuchOfEach : List Window → (kinds weights : List ℕ) → Choice → Type 0
SoMuchOfEach vs ks ws cs = (k : ℕ) → k < length vs → InWindow (slice_index_or vs k no_window) (weight_of_kind k ks ws cs)

pub record Wider (vs us : List Window) : Type 0 where
  pub long : length us ≡ length vs
  pub less : (k : ℕ) → k < length vs → (slice_index_or us k no_window).least ≤ (slice_index_or vs k no_window).least
  pub more : (k : ℕ) → k < length vs → (slice_index_or vs k no_window).most ≤ (slice_index_or us k no_window).most
