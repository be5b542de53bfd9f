-- What is left of the proof of the walk beside one top.
use Rattle.std.proofs.Common.{arith}
use Rattle.kinds_halves.proofs.Walking.{clear_both, stair_down}
use Rattle.kinds_halves.proofs.walk.beside.Goals as goal

pub loop-left-preserved : goal.loop-left-preserved
loop-left-preserved c =
    let fs = c.args.sides.lists in
    stair_down _ c.args.top fs.front.now fs.back.now fs.front_rises fs.back_rises c.args.from c.args.to c.loop-left.left c.loop-left.at c.loop-left.found _ _ c.loop-left-test.true c.loop-left.invariant c.reach-at.ensures c.first-found.ensures

pub invariant_of-row-clause-clear : goal.invariant_of-row-clause-clear
invariant_of-row-clause-clear c =
    let sides = c.args.sides in
    clear_both c.args.top _ sides.free c.requires.clear (sides.clear _ (omega (arith, c.loop-left-test.true, c.loop-left.invariant.front)))
