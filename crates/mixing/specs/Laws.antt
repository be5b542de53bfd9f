-- Laws of mixed bags, as statements.
--   MixRefusalsAreExact   nothing is turned away just where the rule, the pans and the kinds are in order
use Rattle.std.specs.Prelude.{◌≡◌, ℕ, List, None}
use Rattle.choices.specs.Stand.{Stand}
use Rattle.mixing.specs.Refusals.{mix_refusal, Mixable}

abbrev pub MixRefusalsAreExact : Type 0
MixRefusalsAreExact = (rs : List ℕ) (s : Stand) (ks : List ℕ) → (mix_refusal rs s ks ≡ None → Mixable rs s ks) × (Mixable rs s ks → mix_refusal rs s ks ≡ None)
