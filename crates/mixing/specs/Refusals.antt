-- What is turned away where kinds are asked for, and where. Assumes nothing: these are definitions.
--   many            for how many kinds a rule has a least and a most behind its four numbers
--   wanted          how many numbers a rule has to have where there are so many: six at least, and no odd one
--   kinds_fault     how many kinds the rule has, where these are more than four; then how many pans have a kind, where that is
--                   not one for each pan; then the first pan of a kind that the rule does not have, one above its last
--   kinds_refusal   that as a refusal, 6
--   mix_refusal     what a bag is turned away for (1 to 3), the rule being as long as it is wanted; then 6
--   Mixable         a rule, pans and kinds of which nothing is turned away
use Rattle.std.specs.Prelude.{◌≡◌, ℕ, ◌+◌, ◌-◌, ◌/◌, ◌%◌, ◌<◌, ◌≤◌, max, List, length, Some, Option, if◌then◌else◌, ◌==◌, nat_le, slice_index}
use Rattle.std.specs.Option.{option_map}
use Rattle.answers.specs.Refusals.{or_else}
use Rattle.answers.specs.declared.refusal.Refusal.{Refusal}
use Rattle.answers.specs.declared.refusal.Refusal.TheVariants.{Further}
use Rattle.choices.specs.Stand.{Stand}
use Rattle.kinds.specs.declared.mixed.TheConstants.{KINDS}
use Rattle.mixing.specs.declared.refusal.TheConstants.{KINDS_REFUSED}
use Rattle.packing.specs.Refusals.{Accepted, first_above, first_refusal}

abbrev pub many : List ℕ → ℕ
many rs = (length rs - 4) / 2

abbrev pub wanted : ℕ → ℕ
wanted n = max (n + n % 2) 6

abbrev pub kinds_fault : (many pans : ℕ) → (kinds : List ℕ) → Option ℕ
kinds_fault m n ks =
    if nat_le m KINDS then (if length ks == n then (first_above (m - 1) 0 ks) else (Some (length ks))) else (Some m)

abbrev pub kinds_refusal : (many pans : ℕ) → (kinds : List ℕ) → Option Refusal
kinds_refusal m n ks = option_map (Further KINDS_REFUSED) (kinds_fault m n ks)

abbrev pub mix_refusal : (rule : List ℕ) → Stand → (kinds : List ℕ) → Option Refusal
mix_refusal rs s ks = or_else (first_refusal (wanted (length rs)) rs s) (kinds_refusal (many rs) (length s.weights) ks)

pub record Mixable (rs : List ℕ) (s : Stand) (ks : List ℕ) : Type 0 where
  pub accepted : Accepted (wanted (length rs)) rs s
  pub some : 1 ≤ many rs
  pub few : many rs ≤ KINDS
  pub paired : length ks ≡ length s.weights
  pub known : (i : ℕ) → slice_index ks i < many rs
