-- What is left of the proof that nothing within the bounds is lost.
use Rattle.halves_sieves.proofs.Parts.{thinned_from}
use Rattle.halves_sieves.proofs.sieve.thin.Goals as goal

pub returns-then-bounds-span : goal.returns-then-bounds-span
returns-then-bounds-span c = thinned_from _ _ c.args.span.skip c.args.span.len _ _ _ _ _ c.worth.ensures c.sieve.ensures
