-- What is left of the proof of what the free pans weigh.
use Rattle.std.proofs.Common.{arith}
use Rattle.std.proofs.lemmas.List.{ext_get_or}
use Rattle.exact.specs.Pans.{free_of}
use Rattle.exact.proofs.Joining.{length_free, free_at}
use Rattle.std.proofs.Common.{sym, ◌∙◌}
use Rattle.exact.proofs.free.free_weights.Goals as goal

pub returns : goal.returns
returns c =
    let r = c.args.ring in
    let long = length_free r.rule.age r.weights.now r.ages.now r.ordered.paired in
    ext_get_or 0 c.loop-pan.free (free_of r.rule.age r.weights.now r.ages.now) (omega (arith, long))
    (λ i less. c.loop-pan.invariant i (omega arith) ∙ sym (free_at r.rule.age r.weights.now r.ages.now i r.ordered.paired (omega arith)))
