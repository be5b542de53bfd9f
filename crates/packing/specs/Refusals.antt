-- What is turned away, by the first refusal of the list that applies, and where. Assumes nothing: these are definitions.
--   first_above    the place of the first number above a limit
--   first_refusal  1: the rule isn't so many numbers, one is above 1,000,000, or the target is 0
--                  2: there is no pan, there are more than 24, or not an age for each
--                  3: a weight or an age is above 1,000,000
--   room_refusal   after these, 5: the lent room has fewer entries than the ring's halves take
--                  (4 is for what can't be done as a line asks)
--   Accepted       a rule in numbers and pans of which nothing is turned away
use Rattle.std.specs.Prelude.{◌≡◌, ℕ, ◌+◌, ◌≤◌, min, ◌&&◌, List, [], ◌∷◌, ◌++◌, length, Some, None, Option, if◌then◌else◌, ◌==◌, nat_le, slice_index}
use Rattle.std.specs.Option.{option_map}
use Rattle.answers.specs.Refusals.{or_else}
use Rattle.answers.specs.declared.refusal.Refusal.{Refusal}
use Rattle.answers.specs.declared.refusal.Refusal.TheVariants.{Rule as RuleRefused, Pans, Number}
use Rattle.choices.specs.Stand.{Stand, InOrder}
use Rattle.choices.specs.declared.limits.TheConstants.{LIMIT, PANS}
use Rattle.engines.specs.Lacks.{entries_lacked}

-- places are counted from i on
abbrev pub first_above : (limit i : ℕ) → List ℕ → Option ℕ
first_above m i [] = None
first_above m i (x ∷ xs) = if nat_le x m then (first_above m (i + 1) xs) else (Some i)

-- the first number missing or too many; then the first above the limit; then a target of 0
abbrev pub rule_fault : (long : ℕ) → List ℕ → Option ℕ
rule_fault long rs =
    if length rs == long then (or_else (first_above LIMIT 0 rs) (if nat_le 1 (slice_index rs 0) then None else (Some 0))) else (Some (min (length rs) long))

-- how many pans, where that is wrong; then how many ages
abbrev pub pans_fault : (pans ages : ℕ) → Option ℕ
pans_fault n m = if (nat_le 1 n && nat_le n PANS) then (if m == n then None else (Some m)) else (Some n)

abbrev pub rule_refusal : (long : ℕ) → (rule : List ℕ) → Option Refusal
rule_refusal long rs = option_map RuleRefused (rule_fault long rs)

abbrev pub pans_refusal : (pans ages : ℕ) → Option Refusal
pans_refusal n m = option_map Pans (pans_fault n m)

abbrev pub numbers_refusal : (weights_and_ages : List ℕ) → Option Refusal
numbers_refusal xs = option_map Number (first_above LIMIT 0 xs)

abbrev pub first_refusal : (long : ℕ) → (rule : List ℕ) → Stand → Option Refusal
first_refusal long rs s = or_else (rule_refusal long rs) (or_else (pans_refusal (length s.weights) (length s.ages)) (numbers_refusal (s.weights ++ s.ages)))

abbrev pub room_refusal : (rule : List ℕ) → Stand → (entries : ℕ) → Option Refusal
room_refusal rs s m = or_else (first_refusal 4 rs s) (entries_lacked s m)

pub record Accepted (wanted : ℕ) (rs : List ℕ) (s : Stand) : Type 0 where
  pub long : length rs ≡ wanted
  pub some : 1 ≤ slice_index rs 0
  pub small : (i : ℕ) → slice_index rs i ≤ LIMIT
  pub ordered : InOrder s
