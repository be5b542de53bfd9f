-- What is left of the proof that the least of the tops' is the least of all.
use Rattle.std.proofs.Common.{length}
use Rattle.std.proofs.lemmas.List.{length_push}
use Rattle.std.proofs.lemmas.Slice.Zip.{zip_turn}
use Rattle.halves_sweeps.specs.Sweep.{Whatever}
use Rattle.halves_sweeps.proofs.Sweeping.{least_top}
use Rattle.halves_sweeps.proofs.tops.first.Goals as goal

pub loop-top-preserved : goal.loop-top-preserved
loop-top-preserved c =
    let ts = c.args.tops.now in
    let k = length c.loop-top.yielded in
    let t = zip_turn ts c.each-found.result c.loop-top.yielded c.into_iter-top-iterator.result _ c.next.new.self _ (cc) (cc) c.loop-top.yielded_by _ c.in-Some.is c.next.ensures.steps in
    rw (length_push c.loop-top.yielded (c.in-Some.top, c.in-Some.more), c.min-least.ensures, t.2 0, t.3 0)
    (least_top Whatever k ts _ _ _ _ _ c.args.to _ c.loop-top.invariant c.loop-top.invariant.high (c.each-found.ensures k t.0))
