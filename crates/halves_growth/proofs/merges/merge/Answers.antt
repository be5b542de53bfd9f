-- What is left of the proof of the merge.
use Rattle.std.proofs.Common.{◌+◌, ◌-◌, refl, ◌∙◌, arith}
use Rattle.std.proofs.lemmas.List.{get_or-set_other}
use Rattle.halves_growth.proofs.Merging.{merging_none, merging_keep, merging_add, merging_all}
use Rattle.halves_growth.proofs.merges.merge.Goals as goal

pub loop-j-init : goal.loop-j-init
loop-j-init c = (merging_none _ _ _ _ c.args.job.fewer, λ q l. refl)

pub loop-j-preserved-then-kept-added : goal.loop-j-preserved-then-kept-added
loop-j-preserved-then-kept-added c =
    let h = c.loop-j.invariant.0 in (
      merging_keep _ _ _ _ _ _ _ h c.loop-j-test.true (omega arith) c.requires.sorted.rises _ (omega (arith, c.max.ensures)) (omega (arith, c.max.ensures)),
      λ q l. get_or-set_other c.loop-j.es (c.loop-j.i + c.loop-j.j - 1) q _ 0 (omega (arith, h.kept_left, h.added_left)) ∙ c.loop-j.invariant.1 q l,
    )

pub loop-j-preserved : goal.loop-j-preserved
loop-j-preserved c =
    let h = c.loop-j.invariant.0 in (
      merging_add _ _ _ _ _ _ _ h c.loop-j-test.true (omega arith) c.requires.sorted.rises _ (omega (arith, c.max.ensures)) (omega (arith, c.max.ensures)),
      λ q l. get_or-set_other c.loop-j.es (c.loop-j.i + c.loop-j.j - 1) q _ 0 (omega (arith, h.kept_left, h.added_left)) ∙ c.loop-j.invariant.1 q l,
    )

pub returns : goal.returns
returns c = record { merged = merging_all _ _ _ _ _ _ _ c.requires.sorted.rises c.loop-j-test.false c.loop-j.invariant.0; rest = c.loop-j.invariant.1 }
