-- What is left of the proof that one kind more is looked at.
use Rattle.std.proofs.Common.{ap, ◌∙◌}
use Rattle.choices.specs.declared.ring.Ring.{Ring}
use Rattle.kinds_scan.proofs.Looking.{looks_more, own_in_order}
use Rattle.kinds_scan.proofs.answer.with_kind.Goals as goal

pub invariant_of-of : goal.invariant_of-of
invariant_of-of g c = record { ruled = c.args.mixed.ring.ruled; ordered = rw c.requires.own (own_in_order c.args.mixed c.args.kind) }

pub returns : goal.returns
returns g c = looks_more c.args.mixed c.args.kind c.requires.known c.of.result.ring.weights.now c.requires.before (ap (λ (r : Ring). r.weights.now) c.of.ensures ∙ c.requires.own)
