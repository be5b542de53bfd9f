-- Laws of the entries, as statements.
--   RefusalsAreExact   nothing is turned away just where everything is in order
--   LimitsAre          what is in order has no number above 1,000,000, and no more than 24 pans
--   EntriesAgree       with room enough, the entry over a room answers and leaves what the entry without one does
use Rattle.std.specs.Prelude.{◌≡◌, ℕ, ◌≤◌, List, length, None}
use Rattle.choices.specs.Ruled.{rule_in}
use Rattle.choices.specs.Stand.{Stand, by_rule}
use Rattle.choices.specs.declared.limits.TheConstants.{LIMIT, PANS}
use Rattle.halves.specs.Entries.{room_for}
use Rattle.packing.specs.Entry.{Answer, Answered}
use Rattle.packing.specs.Refusals.{Accepted, first_refusal, room_refusal}

abbrev pub RefusalsAreExact : Type 0
RefusalsAreExact =
    (long : ℕ) (rs : List ℕ) (s : Stand) →
    (first_refusal long rs s ≡ None → Accepted long rs s) × (Accepted long rs s → first_refusal long rs s ≡ None)

abbrev pub LimitsAre : Type 0
LimitsAre = (LIMIT ≡ 1000000) × (PANS ≡ 24)

abbrev pub EntriesAgree : Type 0
EntriesAgree =
    (rs : List ℕ) (s : Stand) (m : ℕ) (d e : Answer) (t u : Stand) → room_for (length s.weights) ≤ m →
    Answered (first_refusal 4 rs s) (by_rule (rule_in rs)) s d t → Answered (room_refusal rs s m) (by_rule (rule_in rs)) s e u →
    (d ≡ e) × (t ≡ u)
