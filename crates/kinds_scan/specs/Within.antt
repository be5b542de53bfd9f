-- How much of a kind the choices of a block have, and which kinds a criterion looks at. Assumes nothing: these are
-- definitions.
--   in_window     so much is neither too little nor too much
--   Outside       of the 2 ^ free choices from `head` on, none after the head is within the window, by one kind's weights
--   first_kinds   a choice fits the rule, and has so much of each of the first kinds
--   LooksAt       a criterion over the choices of a ring that tests the rule and the first kinds, in the order of choices
use Rattle.std.specs.Prelude.{◌≡◌, ℕ, ◌+◌, ◌^◌, ◌<◌, Bool, false, ◌&&◌, List, length, nat_le, take}
use Rattle.choices.specs.Choice.{Choice, weight_of}
use Rattle.choices.specs.Numbered.{choice_of}
use Rattle.kinds.specs.Kinds.{mixes}
use Rattle.kinds.specs.declared.mixed.MixedRing.{MixedRing}
use Rattle.kinds.specs.declared.mixed.Window.{Window}
use Rattle.order.specs.Order.{better}

abbrev pub in_window : Window → ℕ → Bool
in_window v w = nat_le v.least w && nat_le w v.most

abbrev pub Outside : Window → (weights : List ℕ) → (head free : ℕ) → Type 0
Outside v ws head free =
    (j : ℕ) → head < j → j < head + 2 ^ free → in_window v (weight_of ws (choice_of (length ws) j)) ≡ false

abbrev pub first_kinds : ℕ → MixedRing → Choice → Bool
first_kinds m x = mixes x.ring.rule (take m x.windows.now) x.kinds.now x.ring.weights.now x.ring.ages.now

pub record LooksAt (kinds : ℕ) (x : MixedRing) (count : ℕ) (allows : ℕ → Bool) (beats : ℕ → ℕ → Bool) : Type 0 where
  pub counts : count ≡ 2 ^ length x.ring.weights.now
  pub allowed : (k : ℕ) → allows k ≡ first_kinds kinds x (choice_of (length x.ring.weights.now) k)
  pub beaten :
      (a b : ℕ) →
      beats a b ≡ better x.ring.weights.now (choice_of (length x.ring.weights.now) a) (choice_of (length x.ring.weights.now) b)
