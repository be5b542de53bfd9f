-- What the exported calls answer, in numbers. Assumes nothing: these are definitions.
--   bag_number      a bag as one number: its pans times 2 to the power of 32, and its weight; 0 where there is none
--   table_refusal   what a bag would be turned away for; then 5 where the lent bytes are fewer than are asked for the ring's
--                   table
--   Told            what a call over one engine answers: the first refusal's number, or the best bag's number
--   SeasonTold      what a season's call answers and leaves
use Rattle.std.specs.Prelude.{◌≡◌, ℕ, ◌+◌, ◌*◌, ◌^◌, List, Some, None, Option}
use Rattle.answers.specs.Refusals.{or_else, refusal_number}
use Rattle.answers.specs.declared.played.Played.{Played}
use Rattle.answers.specs.declared.refusal.Refusal.{Refusal}
use Rattle.choices.specs.Ruled.{rule_in}
use Rattle.choices.specs.Stand.{Stand, by_rule}
use Rattle.choices.specs.declared.rule.Rule.{Rule}
use Rattle.engines.specs.Bytes.{bytes_lacked}
use Rattle.order.specs.Order.{Found}
use Rattle.order.specs.declared.bag.Bag.{Bag}
use Rattle.packing.specs.Refusals.{first_refusal}
use Rattle.seasons.specs.Season.{PlayedBy}
use Rattle.c_interface.specs.declared.told.Told.{Told as Numbers}

abbrev pub bag_number : Option Bag → ℕ
bag_number None = 0
bag_number (Some b) = b.pans * 2 ^ 32 + b.weight

abbrev pub table_refusal : (rule : List ℕ) → Stand → (bytes : ℕ) → Option Refusal
table_refusal rs s m = or_else (first_refusal 4 rs s) (bytes_lacked (rule_in rs) s m)

abbrev pub Told : Option Refusal → Rule → Stand → ℕ → Type 0
Told None r s x = (b : Option Bag) × (Found (by_rule r s) s.weights b × (x ≡ bag_number b))
Told (Some f) r s x = x ≡ refusal_number f

abbrev pub SeasonTold : Option Refusal → Rule → (hs : List ℕ) (wanted : ℕ) → Stand → Numbers → Stand → Type 0
SeasonTold None r hs n s t u =
    (t.refusal ≡ 0)
    × ((p : Played) × (PlayedBy r hs n s u p × (t.bags ≡ p.bags) × (t.weight ≡ p.weight) × (t.given_away ≡ p.given_away)))
SeasonTold (Some f) r hs n s t u =
    (t.refusal ≡ refusal_number f) × (t.bags ≡ 0) × (t.weight ≡ 0) × (t.given_away ≡ 0) × (u ≡ s)
