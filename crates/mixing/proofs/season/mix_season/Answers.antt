-- What is left of the proof that a season of mixed bags is played.
use Rattle.std.proofs.Common.{ap}
use Rattle.choices.specs.declared.rule.Rule.{Rule}
use Rattle.choices.specs.Stand.{stand}
use Rattle.mixing.proofs.Playing.{played_mix, untouched}
use Rattle.mixing.proofs.Promised.{ready_by}
use Rattle.mixing.proofs.Refused.{mixable}
use Rattle.packing.proofs.Refused.{passed_as}
use Rattle.mixing.proofs.season.mix_season.Goals as goal
use Rattle.mixing.specs.Refusals.{Mixable}

taken : (c : goal.After-told) → Mixable c.args.rule.now (stand c.args.weights.now c.args.ages.now) c.args.kinds.now
taken c =
    mixable c.args.rule.now (stand c.args.weights.now c.args.ages.now) c.args.kinds.now (rw c.behind.ensures.value at c.in_ok-whole.ensures.taken)
    (passed_as _ _ _ c.in_ok-check_kinds.ensures).0

pub play-run-requires-clause-numbers : goal.play-run-requires-clause-numbers
play-run-requires-clause-numbers c =
    ready_by c.mix_of-kind.result
    (mixable c.args.rule.now (stand c.args.weights.now c.args.ages.now) c.args.kinds.now (rw c.behind.ensures.value at c.in_ok-whole.ensures.taken)
    (passed_as _ _ _ c.in_ok-check_kinds.ensures).0)
    c.mix_of-kind.ensures.same c.mix_of-kind.ensures.many

pub returns-clause-answer : goal.returns-clause-answer
returns-clause-answer c =
    let f = passed_as _ _ _ c.in_ok-whole.ensures.value in
    let kinds = (passed_as _ _ _ c.in_ok-check_kinds.ensures).0 in
    let e = c.told.ensures in
    rw (rw c.behind.ensures.value at f.0, kinds)
    (played_mix _ _ _ _ _ _ _ _ _ _ _ _ _ c.mix_of-kind.ensures.same (ap (λ (r : Rule). r.target) f.1) c.play-run.ensures.played e.bags e.weight e.ended e.given)

pub returns-clause-never : goal.returns-clause-never
returns-clause-never c = untouched _ _ _ _ c.in_ok-whole.ensures.small (taken c)
