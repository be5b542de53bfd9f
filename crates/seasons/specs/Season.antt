-- A season of any kind of bag: bag after bag, each the best of its stand, and handfuls of a list in between. Assumes nothing:
-- these are definitions.
--   refilled         a stand after the list's handfuls, from a place of the list on, fell into its empty pans
--   Course           so many bags of so much weight have been made, and so many handfuls of the list have fallen
--   Kept             what is promised of a course, at every bag of it
--   Plays            a season was played: its course, how it ended, and what is promised of it
--   PlayedBy         the same by a rule, and what was given away: what the bags weigh above so many targets
--   season_refusal   what a bag would be turned away for; then 3 for a handful above 1,000,000, its place behind the weights
--                    and the ages; then 4 for more bags than a season has
--   Seasoned         what each answer says
--   Untouched        once begun no bag of a season is turned away
use Rattle.std.specs.Prelude.{◌≡◌, ℕ, suc, ◌+◌, ◌-◌, ◌*◌, ◌<◌, ◌≤◌, Bool, ◌⊎◌, List, length, Some, None, Ok, Err, MatchBool, Option, Result, if◌then◌else◌, nat_le}
use Rattle.std.specs.Option.{option_map}
use Rattle.answers.specs.Refusals.{or_else}
use Rattle.answers.specs.declared.played.Played.{Played}
use Rattle.answers.specs.declared.refusal.Refusal.{Refusal}
use Rattle.answers.specs.declared.refusal.Refusal.TheVariants.{Number, Line}
use Rattle.choices.specs.Ruled.{rule_in}
use Rattle.choices.specs.Stand.{Stand, stand, InOrder, May, by_rule, total, NoneAbove}
use Rattle.choices.specs.declared.limits.TheConstants.{LIMIT}
use Rattle.choices.specs.declared.rule.Rule.{Rule}
use Rattle.engines.specs.Plain.{age_of, least_of, top_of, same_rule, rule_ready}
use Rattle.order.specs.Order.{NoneOf}
use Rattle.packing.specs.Entry.{Made}
use Rattle.packing.specs.Refusals.{first_above, first_refusal}
use Rattle.seasons.specs.Handfuls.{hands, place, empties, filled}
use Rattle.seasons.specs.declared.limits.TheConstants.{LONGEST}

abbrev pub refilled : (handfuls : List ℕ) → (from : ℕ) → Stand → Stand
refilled hs i u = stand (filled u.weights (hands hs i (empties u.weights))) u.ages

pub data Course {K : Type 0} (allows : K → May) (after : K → (weight : ℕ) → K) (hs : List ℕ) (first : K) (from : Stand) :
    (k : K) (to : Stand) (handfuls bags weight : ℕ) → Type 0 where
  start : Course allows after hs first from first from 0 0 0
  next :
      {k : K} {t u : Stand} {j n v p w : ℕ} →
      Course allows after hs first from k t j n v → Made (allows k) t p w u →
      Course allows after hs first from (after k w) (refilled hs (place hs 0 j) u) (j + empties u.weights) (suc n) (v + w)

pub record Kept {K : Type 0} (age least top : K → ℕ) (hs : List ℕ) (first : K) (s t : Stand) (handfuls bags weight : ℕ) : Type 0 where
  -- no pan's age comes above the kind's: after a bag whatever the ages were, and where they were not above it at the start
  pub young : (NoneAbove (age first) s.ages) ⊎ (1 ≤ bags) → NoneAbove (age first) t.ages
  -- the bags weigh enough, and not too much
  pub enough : bags * least first ≤ weight
  pub within : weight ≤ bags * top first
  -- what was there and the handfuls that fell are what went into bags and what is left
  pub nothing_lost : total s.weights + total (hands hs 0 handfuls) ≡ weight + total t.weights
  -- no bags change nothing
  pub still : bags ≡ 0 → t ≡ s

pub record Plays {K : Type 0} (allows : K → May) (age least top : K → ℕ) (after : K → (weight : ℕ) → K) (ready : K → (pans bags : ℕ) → Type 0)
    (hs : List ℕ) (wanted : ℕ) (first : K) (s : Stand) (k : K) (t : Stand) (bags weight : ℕ) (early : Bool) : Type 0 where
  pub handfuls : ℕ
  pub course : Course allows after hs first s k t handfuls bags weight
  pub ends : MatchBool early ((bags < wanted) × NoneOf (allows k t)) (bags ≡ wanted)
  -- at every bag of the course what is promised holds, the pans are in order, and the kind is ready for the bags that are left
  pub kept : (j : K) (u : Stand) (i n v : ℕ) → Course allows after hs first s j u i n v → Kept age least top hs first s u i n v
  pub ordered : (j : K) (u : Stand) (i n v : ℕ) → Course allows after hs first s j u i n v → InOrder u
  pub goes_on : (j : K) (u : Stand) (i n v : ℕ) → Course allows after hs first s j u i n v → n ≤ wanted → ready j (length u.weights) (wanted - n)

pub record PlayedBy (r : Rule) (hs : List ℕ) (wanted : ℕ) (s t : Stand) (p : Played) : Type 0 where
  pub plays : Plays by_rule age_of least_of top_of same_rule rule_ready hs wanted r s r t p.bags p.weight p.ended_early
  pub given : p.given_away + p.bags * r.target ≡ p.weight

abbrev pub season_refusal : (long : ℕ) → (rule : List ℕ) → Stand → (handfuls : List ℕ) → (bags : ℕ) → Option Refusal
season_refusal long rs s hs n =
    or_else (first_refusal long rs s) (or_else (option_map Number (first_above LIMIT (2 * length s.weights) hs)) (if nat_le n LONGEST then None else (Some Line)))

abbrev pub Seasoned : Option Refusal → Rule → (hs : List ℕ) (wanted : ℕ) → Stand → Result Played Refusal → Stand → Type 0
Seasoned None r hs n s (Ok p) t = PlayedBy r hs n s t p
Seasoned None r hs n s (Err f) t = ⊥
Seasoned (Some g) r hs n s (Ok p) t = ⊥
Seasoned (Some g) r hs n s (Err f) t = (f ≡ g) × (t ≡ s)

abbrev pub Untouched : (rule handfuls : List ℕ) → Stand → Type 0
Untouched rs hs s = (k : Rule) (t : Stand) (j n v : ℕ) → Course by_rule same_rule hs (rule_in rs) s k t j n v → first_refusal 4 rs t ≡ None
