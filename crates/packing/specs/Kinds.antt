-- The state of a kind of bag, bag after bag. Assumes nothing: this is a definition.
--   after_bag   a kind after what was answered: a bag changes it, none does not
use Rattle.std.specs.Prelude.{ℕ, Some, None, Option}
use Rattle.order.specs.declared.bag.Bag.{Bag}

abbrev pub after_bag : {K : Type 0} → (K → (weight : ℕ) → K) → K → Option Bag → K
after_bag after k None = k
after_bag after k (Some b) = after k b.weight
