-- A season of bags with so much of each kind. Assumes nothing: these are definitions.
--   PlayedMix            a season was played: the kind of bag, its course, what is promised of it, and what was given away
--   mix_season_refusal   what a season is turned away for (1 to 4), the rule being as long as it is wanted; then 6
--   MixSeasoned          what each answer says
--   MixUntouched         once begun no bag of a season is turned away
use Rattle.std.specs.Prelude.{◌≡◌, ℕ, ◌+◌, ◌*◌, List, length, Some, None, Ok, Err, Option, Result}
use Rattle.answers.specs.Refusals.{or_else}
use Rattle.answers.specs.declared.played.Played.{Played}
use Rattle.answers.specs.declared.refusal.Refusal.{Refusal}
use Rattle.choices.specs.Ruled.{rule_in}
use Rattle.choices.specs.Stand.{Stand}
use Rattle.mixing.specs.Kind.{mix_age, mix_allows, mix_least, mix_ready, mix_top, same_mix, IsMix}
use Rattle.mixing.specs.Refusals.{kinds_refusal, many, mix_refusal, wanted as long_wanted}
use Rattle.mixing.specs.declared.kind.Mix.{Mix}
use Rattle.seasons.specs.Season.{Course, Plays, season_refusal}

pub record PlayedMix (rs ks hs : List ℕ) (wanted : ℕ) (s t : Stand) (p : Played) : Type 0 where
  pub kind : Mix
  pub is : IsMix rs ks kind
  pub plays : Plays mix_allows mix_age mix_least mix_top same_mix mix_ready hs wanted kind s kind t p.bags p.weight p.ended_early
  pub given : p.given_away + p.bags * (rule_in rs).target ≡ p.weight

abbrev pub mix_season_refusal : (rule : List ℕ) → Stand → (kinds handfuls : List ℕ) → (bags : ℕ) → Option Refusal
mix_season_refusal rs s ks hs n =
    or_else (season_refusal (long_wanted (length rs)) rs s hs n) (kinds_refusal (many rs) (length s.weights) ks)

abbrev pub MixSeasoned : Option Refusal → (rs ks hs : List ℕ) (wanted : ℕ) → Stand → Result Played Refusal → Stand → Type 0
MixSeasoned None rs ks hs n s (Ok p) t = PlayedMix rs ks hs n s t p
MixSeasoned None rs ks hs n s (Err f) t = ⊥
MixSeasoned (Some g) rs ks hs n s (Ok p) t = ⊥
MixSeasoned (Some g) rs ks hs n s (Err f) t = (f ≡ g) × (t ≡ s)

abbrev pub MixUntouched : (rs ks hs : List ℕ) → Stand → Type 0
MixUntouched rs ks hs s =
    (first k : Mix) (t : Stand) (j n v : ℕ) → IsMix rs ks first →
    Course mix_allows same_mix hs first s k t j n v → mix_refusal rs t ks ≡ None
