-- Where nothing is turned away the rule, the pans and the kinds are in order.
use Rattle.std.proofs.Common.{◌≡◌, ℕ, ◌-◌, ◌≤◌, List, length, None, refl, arith}
use Rattle.std.proofs.lemmas.Bool.{leb-true, eqb-true, le-leb, eq-eqb}
use Rattle.answers.specs.declared.refusal.Refusal.TheVariants.{Further}
use Rattle.choices.specs.Stand.{Stand}
use Rattle.kinds.specs.declared.mixed.TheConstants.{KINDS}
use Rattle.mixing.specs.Laws.{MixRefusalsAreExact}
use Rattle.mixing.specs.Refusals.{Mixable, kinds_fault, kinds_refusal, many, mix_refusal, wanted}
use Rattle.mixing.specs.declared.refusal.TheConstants.{KINDS_REFUSED}
use Rattle.packing.specs.Refusals.{Accepted, first_refusal}
use Rattle.packing.proofs.Refused.{cond_none, mapped_none, none_above, none_below, or_parts, refusals_are_exact}

some_kind : (n : ℕ) → n ≡ wanted n → 6 ≤ n
some_kind n e = omega (arith, e)

pub mixable :
    (rs : List ℕ) (s : Stand) (ks : List ℕ) → Accepted (wanted (length rs)) rs s → kinds_refusal (many rs) (length s.weights) ks ≡ None → Mixable rs s ks
mixable rs s ks a h =
    let few = cond_none _ _ _ (mapped_none (Further KINDS_REFUSED) (kinds_fault (many rs) (length s.weights) ks) h) in
    let paired = cond_none _ _ _ few.1 in
    let six = some_kind (length rs) a.long in
    record {
      accepted = a;
      some = omega arith;
      few = leb-true _ _ few.0;
      paired = eqb-true _ _ paired.0;
      known = λ i. omega (arith, none_above _ 0 ks paired.1 i);
    }

-- and where these are in order nothing is turned away
pub mixes_refused : (rs : List ℕ) (s : Stand) (ks : List ℕ) → Mixable rs s ks → mix_refusal rs s ks ≡ None
mixes_refused rs s ks a =
    rw (
      (refusals_are_exact (wanted (length rs)) rs s).1 a.accepted,
      le-leb (many rs) KINDS a.few,
      eq-eqb (length ks) (length s.weights) a.paired,
      none_below (many rs - 1) 0 ks (λ i. omega (arith, a.known i)),
    )
    refl

pub refusals_exact : MixRefusalsAreExact
refusals_exact rs s ks = (gives, mixes_refused rs s ks)
  where
    gives : mix_refusal rs s ks ≡ None → Mixable rs s ks
    gives h = let p = or_parts (first_refusal (wanted (length rs)) rs s) _ h in mixable rs s ks ((refusals_are_exact (wanted (length rs)) rs s).0 p.0) p.1
