-- What is left of the proof that the old pans are counted.
use Rattle.std.proofs.Common.{length, ◌∙◌, arith}
use Rattle.std.proofs.lemmas.Nat.{one_shl}
use Rattle.choices.proofs.Tallies.{all_opened}
use Rattle.choices.proofs.tally.old_count.Goals as goal

pub returns : goal.returns
returns c =
    let ring = c.args.ring in
    c.look.ensures.olds ∙ rw (one_shl (length ring.weights.now) 32 (omega (arith, ring.ordered.few)), ← ring.ordered.paired) (all_opened ring.rule.age ring.ages.now)
