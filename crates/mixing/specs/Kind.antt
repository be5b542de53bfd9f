-- The kind of bag that has so much of each kind, and that it is lawful.
--   mix_allows   which choices it allows
--   mix_age      from which age on a pan has to be opened
--   mix_least    the least that a bag may weigh
--   mix_top      the most that a bag may weigh
--   same_mix     a bag does not change it
--   MixReady     no number of its rule is above 1,000,000, and every pan has a kind with a window
--   IsMix        it is the one of a rule in numbers and the kinds of the pans
use Rattle.std.specs.Prelude.{◌≡◌, ℕ, ◌+◌, ◌<◌, ◌≤◌, List, length, slice_index, take, refl}
use Rattle.choices.specs.Ruled.{rule_in}
use Rattle.choices.specs.Stand.{May, RuleWithin}
use Rattle.choices.specs.declared.limits.TheConstants.{LIMIT}
use Rattle.choices.proofs.Choices.{fits_allowed, fits_opens}
use Rattle.engines.specs.Kinds.{Lawful}
use Rattle.kinds.specs.declared.mixed.TheConstants.{KINDS}
use Rattle.kinds.proofs.Mixing.{mixes_fits}
use Rattle.mixing.specs.Windows.{mixed_by, windows_in}
use Rattle.mixing.specs.declared.kind.Mix.{Mix}

abbrev pub mix_allows : Mix → May
mix_allows k = mixed_by k.rule (take k.many k.windows) k.kinds.now

abbrev pub mix_age : Mix → ℕ
mix_age k = k.rule.age

abbrev pub mix_least : Mix → ℕ
mix_least k = k.rule.target

abbrev pub mix_top : Mix → ℕ
mix_top k = k.rule.target + k.rule.above

abbrev pub same_mix : Mix → (weight : ℕ) → Mix
same_mix k w = k

pub record MixReady (k : Mix) (pans : ℕ) : Type 0 where
  pub ruled : RuleWithin LIMIT k.rule
  pub some : 1 ≤ k.many
  pub few : k.many ≤ KINDS
  pub paired : length k.kinds.now ≡ pans
  pub known : (i : ℕ) → slice_index k.kinds.now i < k.many

abbrev pub mix_ready : Mix → (pans bags : ℕ) → Type 0
mix_ready k n m = MixReady k n

pub record IsMix (rs ks : List ℕ) (k : Mix) : Type 0 where
  pub rule : k.rule ≡ rule_in rs
  pub windows : take k.many k.windows ≡ windows_in rs
  pub kinds : k.kinds.now ≡ ks

pub mix_lawful : Lawful mix_allows mix_age mix_least mix_top same_mix mix_ready
mix_lawful =
    record {
      sound = λ k s cs h. fits_allowed k.rule s cs (mixes_fits k.rule (take k.many k.windows) k.kinds.now s.weights s.ages cs h);
      opens = λ k s cs ready h. fits_opens k.rule s cs ready.ruled.some (mixes_fits k.rule (take k.many k.windows) k.kinds.now s.weights s.ages cs h);
      old = λ k n m ready. ready.ruled.age;
      one = λ k n m ready. ready;
      goes_on = λ k s cs m ready h. ready;
      same_age = λ k w. refl;
      same_least = λ k w. refl;
      same_top = λ k w. refl;
    }
