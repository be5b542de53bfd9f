-- What is left of the proof that handfuls fall into the empty pans.
use Rattle.std.proofs.Common.{◌+◌, ◌%◌, length, get_or, sym, refl, inl, inr, arith}
use Rattle.std.proofs.lemmas.Nat.{mod_below}
use Rattle.seasons.proofs.Filling.{on_is, filling_more, filling_all}
use Rattle.seasons.proofs.handfuls.fill.Goals as goal
use Rattle.seasons.proofs.handfuls.fill.Goals.{then-w-eq0, else-w-eq0}

pub loop-w-init : goal.loop-w-init
loop-w-init c = record { within = c.requires; after = refl; value = refl }

pub loop-w-preserved : goal.loop-w-preserved
loop-w-preserved c =
    let hs = c.args.handfuls.now in
    let p = c.loop-w.next in
    let f = c.loop-w.invariant in
    elim c.if-w-eq0.branch [
      | then-w-eq0 w ↦
          rw (w.weights-is, w.next-is)
          (filling_more (get_or hs p 0) ((p + 1) % length hs) f (omega arith) (inl (w.if-w-eq0.true, refl, sym (on_is hs p f.within))) (mod_below (p + 1) (length hs) (omega (arith, f.within))))
      | else-w-eq0 w ↦ rw (w.weights-is, w.next-is) (filling_more (get_or c.loop-w.weights c.loop-w.w-index 0) p f (omega arith) (inr (omega (arith, w.if-w-eq0.false), refl, refl)) f.within)
    ]

pub returns : goal.returns
returns c = let e = filling_all c.loop-w.invariant (omega arith) in record { value = e.0; within = c.loop-w.invariant.within; after = e.1 }
