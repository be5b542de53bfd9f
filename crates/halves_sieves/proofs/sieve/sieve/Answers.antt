-- What is left of the proof of the sieve.
use Rattle.std.proofs.Common.{arith}
use Rattle.halves_sieves.proofs.Sieving.{sieving_more, sieving_all, kept_or_not}
use Rattle.halves_sieves.proofs.sieve.sieve.Goals as goal

pub loop-i-preserved : goal.loop-i-preserved
loop-i-preserved c =
    sieving_more _ _ _ _ _ _ _ c.loop-i.invariant (omega arith) (omega (arith, c.loop-i.auto.es)) c.requires
    (kept_or_not c.args.short.now _ _ _ _ (c.loop-i.invariant.unread c.loop-i.i (omega arith)) c.pans_in.ensures c.above.ensures)

pub returns : goal.returns
returns c = sieving_all _ _ _ _ _ _ c.loop-i.invariant (omega arith)
