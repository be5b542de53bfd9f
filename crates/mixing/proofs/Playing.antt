-- A season of bags with so much of each kind: the kind of bag stays, no bag is turned away, and what is told of it.
use Rattle.std.proofs.Common.{◌≡◌, ℕ, ◌+◌, ◌*◌, ◌≤◌, Bool, List, get_or, sym, refl, ◌∙◌}
use Rattle.answers.specs.declared.played.Played.{Played}
use Rattle.choices.specs.Ruled.{rule_in}
use Rattle.choices.specs.Stand.{Stand}
use Rattle.choices.specs.declared.limits.TheConstants.{LIMIT}
use Rattle.mixing.specs.Kind.{mix_age, mix_allows, mix_lawful, mix_least, mix_ready, mix_top, same_mix, IsMix}
use Rattle.mixing.specs.Refusals.{Mixable}
use Rattle.mixing.specs.Season.{MixUntouched, PlayedMix}
use Rattle.mixing.specs.declared.kind.Mix.{Mix}
use Rattle.mixing.proofs.Refused.{mixes_refused}
use Rattle.packing.proofs.Refused.{within}
use Rattle.seasons.specs.Season.{Course, start, next, Plays}
use Rattle.seasons.proofs.Playing.{course_long, course_ordered}

-- nothing of the kind of bag changes
same_kind : {hs : List ℕ} {first : Mix} {s : Stand} {k : Mix} {t : Stand} {j n v : ℕ} → Course mix_allows same_mix hs first s k t j n v → k ≡ first
same_kind start = refl
same_kind (next h m) = same_kind h

pub played_mix :
    (rs ks hs : List ℕ) (wanted : ℕ) (q k : Mix) (s t : Stand) (b w target : ℕ) (early : Bool) (p : Played) → IsMix rs ks q → target ≡ (rule_in rs).target →
    Plays mix_allows mix_age mix_least mix_top same_mix mix_ready hs wanted q s k t b w early →
    p.bags ≡ b → p.weight ≡ w → p.ended_early ≡ early → p.given_away + b * target ≡ w → PlayedMix rs ks hs wanted s t p
played_mix rs ks hs wanted q k s t b w target early p is e h bags weight ends given =
    record {
      kind = q;
      is = is;
      plays = rw (bags, weight, ends) (rw (same_kind h.course) at h);
      given = rw (bags, weight, sym e) given;
    }

-- once begun no bag is turned away
pub untouched : (rs ks hs : List ℕ) (s : Stand) → ((i : ℕ) → get_or hs i 0 ≤ LIMIT) → Mixable rs s ks → MixUntouched rs ks hs s
untouched rs ks hs s small a first k t j n v is h =
    let young : mix_age first ≤ LIMIT = rw is.rule (within a.accepted).age in
    let o = course_ordered mix_lawful small young a.accepted.ordered h in
    let long = course_long mix_lawful h in
    mixes_refused rs t ks
    (record {
      accepted = record { long = a.accepted.long; some = a.accepted.some; small = a.accepted.small; ordered = o };
      some = a.some;
      few = a.few;
      paired = a.paired ∙ sym long;
      known = a.known;
    })
