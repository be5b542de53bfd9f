-- What the plain way leaves. Assumes nothing: these are definitions.
--   SameWithoutABag   where no bag is made, the pans and their ages stay as they were
--   NoRoomLacked      nothing is turned away for want of room
use Rattle.std.specs.Prelude.{◌≡◌, Some, None, Ok, Err, Option, Result}
use Rattle.answers.specs.declared.refusal.Refusal.{Refusal}
use Rattle.answers.specs.declared.refusal.Refusal.TheVariants.{Rule, Pans, Number, Line, Room, Further}
use Rattle.order.specs.declared.bag.Bag.{Bag}
use Rattle.trials.specs.declared.case.Case.{Case}
use Rattle.trials.specs.declared.outcome.Outcome.{Outcome}

pub record Same (c : Case) (o : Outcome) : Type 0 where
  pub weights : o.weights ≡ c.weights
  pub ages : o.ages ≡ c.ages

abbrev pub same_at : Case → Outcome → Result (Option Bag) Refusal → Type 0
same_at c o (Ok (Some b)) = Unit {0}
same_at c o (Ok None) = Same c o
same_at c o (Err (Rule p)) = Same c o
same_at c o (Err (Pans p)) = Same c o
same_at c o (Err (Number p)) = Same c o
same_at c o (Err Line) = Same c o
same_at c o (Err (Room p)) = ⊥
same_at c o (Err (Further n p)) = Same c o

abbrev pub NoRoomLacked : {X : Type 0} → Result X Refusal → Type 0
NoRoomLacked (Ok x) = Unit {0}
NoRoomLacked (Err (Rule p)) = Unit {0}
NoRoomLacked (Err (Pans p)) = Unit {0}
NoRoomLacked (Err (Number p)) = Unit {0}
NoRoomLacked (Err Line) = Unit {0}
NoRoomLacked (Err (Room p)) = ⊥
NoRoomLacked (Err (Further n p)) = Unit {0}

abbrev pub SameWithoutABag : Case → Outcome → Type 0
SameWithoutABag c o = same_at c o o.answer
