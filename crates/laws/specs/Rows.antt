-- Rows of bags of any kind, with any handfuls that fall in between. Assumes nothing: these are definitions.
--   Falls      handfuls of so many grams together fall into pans that are empty; all others keep what they have
--   Bags       so many bags of so much weight together, each the best of its stand, and so many grams that fell in
use Rattle.std.specs.Prelude.{ℕ, suc, ◌+◌, List, [], ◌∷◌}
use Rattle.choices.specs.Stand.{Stand, stand, May}
use Rattle.packing.specs.Entry.{Made}

pub data Falls : (before after : List ℕ) (grams : ℕ) → Type 0 where
  done : Falls [] [] 0
  keeps : {ws vs : List ℕ} {f : ℕ} (w : ℕ) → Falls ws vs f → Falls (w ∷ ws) (w ∷ vs) f
  takes : {ws vs : List ℕ} {f : ℕ} (w : ℕ) → Falls ws vs f → Falls (0 ∷ ws) (w ∷ vs) (w + f)

pub data Bags {K : Type 0} (allows : K → May) (after : K → (weight : ℕ) → K) (first : K) (from : Stand) :
    (k : K) (to : Stand) (bags weight fell : ℕ) → Type 0 where
  start : Bags allows after first from first from 0 0 0
  next :
      {k : K} {t u : Stand} {p w n v f g : ℕ} {ws : List ℕ} →
      Bags allows after first from k t n v g → Made (allows k) t p w u → Falls u.weights ws f →
      Bags allows after first from (after k w) (stand ws u.ages) (suc n) (v + w) (g + f)
