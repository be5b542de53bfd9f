-- What is left of the proof that a candidate is tested by the rule.
use Rattle.std.proofs.Common.{length, ◌∙◌}
use Rattle.choices.specs.Numbered.{choice_of}
use Rattle.choices.proofs.Numbers.{length_choice_of}
use Rattle.choices.proofs.Tallies.{fits_is}
use Rattle.search.proofs.ring.LentCriterion.allows.Goals as goal

pub returns : goal.returns
returns g c =
    let ring = c.args.self.now.ring in
    let n = length ring.weights.now in
    c.fits.ensures ∙ rw c.args.self.now.old_counted (fits_is ring.rule ring.weights.now ring.ages.now (choice_of n c.args.k) _ (length_choice_of n c.args.k) ring.ordered.paired c.tally.ensures)
