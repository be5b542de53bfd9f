-- The numbers so far, and the text that is left.
use Rattle.std.proofs.Common.{length, vec_items}
use Rattle.text.proofs.Listing.{Sofar}
use Rattle.text.proofs.scanning.numbers.Given as goal

abbrev pub invariant-loop-n : goal.invariant-loop-n
invariant-loop-n l = Sofar l.text (vec_items l.numbers) l.rest

abbrev pub decreases-loop-n : goal.decreases-loop-n
decreases-loop-n l = length l.rest
