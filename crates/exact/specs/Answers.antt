-- What the search answers. Assumes nothing: these are definitions.
--   Easy         a choice that fits, weighs exactly the target and opens at most four pans besides the old ones
--   room_bytes   the bytes that two tables up to a target take
--   Answers      the best bag; None: there is no easy choice, or the room is too short to find one
use Rattle.std.specs.Prelude.{◌≡◌, ℕ, ◌+◌, ◌*◌, ◌≤◌, true, List, Some, None, Option}
use Rattle.choices.specs.Choice.{Choice, weight_of, opened, fits}
use Rattle.choices.specs.declared.rule.Rule.{Rule}
use Rattle.order.specs.Order.{BestBag}
use Rattle.order.specs.declared.bag.Bag.{Bag}
use Rattle.exact.specs.Pans.{only_old}

pub record Easy (r : Rule) (ws as' : List ℕ) (cs : Choice) : Type 0 where
  pub fitting : fits r ws as' cs ≡ true
  pub just : weight_of ws cs ≡ r.target
  pub few : opened cs ≤ opened (only_old r.age as') + 4

abbrev pub room_bytes : ℕ → ℕ
room_bytes target = 2 * (target + 2)

abbrev pub Answers : Rule → (weights ages : List ℕ) → (room : ℕ) → Option Bag → Type 0
Answers r ws as' room None = room_bytes r.target ≤ room → (cs : Choice) → Easy r ws as' cs → ⊥
Answers r ws as' room (Some b) = BestBag (fits r ws as') ws b
