-- What is left of the proof that the old pans are added up.
use Rattle.std.proofs.Common.{refl, arith}
use Rattle.std.proofs.lemmas.Nat.{one_shl}
use Rattle.exact.proofs.SummingOld.{summing_room, summing_old, summing_young}
use Rattle.exact.proofs.old.old_pans.Goals as goal

pub loop-pan-preserved-then-a-ring : goal.loop-pan-preserved-then-a-ring
loop-pan-preserved-then-a-ring c =
    let room = summing_room c.loop-pan.invariant.2 c.in-Some.ensures.steps in
    (c.in-Some.ensures.goes.keeps, tt, summing_old c.loop-pan.invariant.2 c.in-Some.ensures.steps c.if-a-ring.true refl refl (omega (arith, one_shl c.in-Some.pan 32 (omega arith))) refl)

pub loop-pan-preserved : goal.loop-pan-preserved
loop-pan-preserved c = (c.in-Some.ensures.goes.keeps, tt, summing_young c.loop-pan.invariant.2 c.in-Some.ensures.steps c.if-a-ring.false)
