-- A season by a rule: the rule stays, no bag is turned away, and what is told of it.
use Rattle.std.proofs.Common.{◌≡◌, ℕ, ◌+◌, ◌*◌, ◌≤◌, Bool, List, get_or, sym}
use Rattle.answers.specs.declared.played.Played.{Played}
use Rattle.choices.specs.Stand.{Stand, by_rule}
use Rattle.choices.specs.declared.rule.Rule.{Rule}
use Rattle.choices.specs.declared.limits.TheConstants.{LIMIT}
use Rattle.engines.specs.Plain.{age_of, least_of, top_of, same_rule, rule_ready}
use Rattle.engines.specs.PlainLaw.{rule_lawful}
use Rattle.packing.specs.Refusals.{Accepted}
use Rattle.packing.proofs.Refused.{refusals_are_exact, within}
use Rattle.seasons.specs.Season.{Plays, PlayedBy, Untouched}
use Rattle.seasons.proofs.Playing.{course_ordered, same_kind}

pub played_by :
    (r q k : Rule) (hs : List ℕ) (wanted : ℕ) (s t : Stand) (b w : ℕ) (early : Bool) (p : Played) → q ≡ r →
    Plays by_rule age_of least_of top_of same_rule rule_ready hs wanted q s k t b w early →
    p.bags ≡ b → p.weight ≡ w → p.ended_early ≡ early → p.given_away + b * q.target ≡ w → PlayedBy r hs wanted s t p
played_by r q k hs wanted s t b w early p e h bags weight ends given =
    record { plays = rw (bags, weight, ends) (rw (same_kind h.course, e) at h); given = rw (bags, weight, sym e) given }

-- once begun no bag is turned away
pub untouched : (rs hs : List ℕ) (s : Stand) → ((i : ℕ) → get_or hs i 0 ≤ LIMIT) → Accepted 4 rs s → Untouched rs hs s
untouched rs hs s small a k t j n v h =
    (refusals_are_exact 4 rs t).1
    (record { long = a.long; some = a.some; small = a.small; ordered = course_ordered rule_lawful small (within a).age a.ordered h })
