-- What is left of the proof that the test of a choice is the rule's.
use Rattle.std.proofs.Common.{length, ◌∙◌}
use Rattle.choices.specs.Numbered.{choice_of}
use Rattle.choices.proofs.Numbers.{length_choice_of}
use Rattle.choices.proofs.Tallies.{fits_is}
use Rattle.choices.proofs.choice.fits.Goals as goal

pub returns : goal.returns
returns c =
    let ring = c.args.ring in
    let n = length ring.weights.now in
    c.fits.ensures ∙ rw c.old_count.ensures (fits_is ring.rule ring.weights.now ring.ages.now (choice_of n c.args.choice) _ (length_choice_of n c.args.choice) ring.ordered.paired c.look.ensures)
