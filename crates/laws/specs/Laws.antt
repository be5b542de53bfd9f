-- Laws of rings and of rows of bags, as statements over the definitions that the entries' contracts use.
--   OneBestOrNone       either one choice is best, and only one, or no choice fits
--   NothingLost         what goes into a bag leaves the pans: the bag and what is left make up what there was
--   NoPanWaitsTooLong   bag after bag no pan's age comes above the kind's: after one bag whatever the ages were at the start,
--                       and from the start on where they were not above it then
--   BagsWeighEnough     so many bags weigh at least so many times the least, and at most so many times the most
--   RowsLoseNothing     what was in the pans and what fell in is what went into bags and what is left
use Rattle.std.specs.Prelude.{◌≡◌, ℕ, ◌+◌, ◌*◌, ◌≤◌, ◌⊎◌, List, length}
use Rattle.choices.specs.Choice.{Choice, weight_of, emptied}
use Rattle.choices.specs.Stand.{Stand, May, by_rule, total, NoneAbove}
use Rattle.choices.specs.declared.rule.Rule.{Rule}
use Rattle.order.specs.Order.{BestOf, NoneOf}
use Rattle.laws.specs.Rows.{Bags}

abbrev pub OneBestOrNone : Type 0
OneBestOrNone =
    (r : Rule) (s : Stand) →
    ((cs : Choice) × BestOf (by_rule r s) s.weights cs × ((ds : Choice) → BestOf (by_rule r s) s.weights ds → cs ≡ ds)) ⊎ NoneOf (by_rule r s)

abbrev pub NothingLost : Type 0
NothingLost = (ws : List ℕ) (cs : Choice) → weight_of ws cs + total (emptied ws cs) ≡ total ws

abbrev pub NoPanWaitsTooLong : {K : Type 0} → (allows : K → May) (age : K → ℕ) (after : K → (weight : ℕ) → K) → Type 0
NoPanWaitsTooLong {K} allows age after =
    (first : K) (s : Stand) (k : K) (t : Stand) (n w f : ℕ) → length s.ages ≡ length s.weights → (NoneAbove (age first) s.ages) ⊎ (1 ≤ n) →
    Bags allows after first s k t n w f → NoneAbove (age first) t.ages

abbrev pub BagsWeighEnough : {K : Type 0} → (allows : K → May) (least top : K → ℕ) (after : K → (weight : ℕ) → K) → Type 0
BagsWeighEnough {K} allows least top after =
    (first : K) (s : Stand) (k : K) (t : Stand) (n w f : ℕ) → Bags allows after first s k t n w f → (n * least first ≤ w) × (w ≤ n * top first)

abbrev pub RowsLoseNothing : {K : Type 0} → (allows : K → May) (after : K → (weight : ℕ) → K) → Type 0
RowsLoseNothing {K} allows after =
    (first : K) (s : Stand) (k : K) (t : Stand) (n w f : ℕ) → Bags allows after first s k t n w f → total s.weights + f ≡ w + total t.weights
