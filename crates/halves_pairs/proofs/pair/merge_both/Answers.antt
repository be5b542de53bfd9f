-- What is left of the proof of the two merges.
use Rattle.std.proofs.Common.{arith}
use Rattle.halves_growth.proofs.Merging.{merging_none, merging_turn}
use Rattle.halves_pairs.proofs.Beside.{merged_rest, sorted_left}
use Rattle.halves_pairs.proofs.pair.merge_both.Goals as goal

pub loop-j-init : goal.loop-j-init
loop-j-init c = (merging_none _ _ _ _ c.args.first.fewer, merging_none _ _ _ _ c.args.second.fewer)

pub loop-j-preserved : goal.loop-j-preserved
loop-j-preserved c = (
  merging_turn _ _ _ _ _ _ _ c.loop-j.invariant.0 c.loop-j-test.true (omega arith) c.requires.front_sorted.rises _ _ c.max.ensures c.above-front_keeps.ensures,
  merging_turn _ _ _ _ _ _ _ c.loop-j.invariant.1 c.if-q-gt0.true (omega arith) c.requires.back_sorted.rises _ _ c.max-in-loop-j.ensures c.above-back_keeps.ensures,
)

pub merge-requires : goal.merge-requires
merge-requires c =
    let h = c.loop-j.invariant.0 in
    record { room = omega (arith, h.kept_left, h.added_left, c.requires.front_room); sorted = sorted_left _ _ _ _ _ _ _ h c.requires.front_sorted }

pub merge-requires-2 : goal.merge-requires-2
merge-requires-2 c =
    let h = c.loop-j.invariant.1 in
    record { room = omega (arith, h.kept_left, h.added_left, c.requires.back_room); sorted = sorted_left _ _ _ _ _ _ _ h c.requires.back_sorted }

pub returns : goal.returns
returns c =
    record {
      front = merged_rest _ _ _ _ _ _ _ _ c.loop-j.invariant.0 c.merge.ensures.merged c.merge.ensures.rest;
      back = merged_rest _ _ _ _ _ _ _ _ c.loop-j.invariant.1 c.merge-2.ensures.merged c.merge-2.ensures.rest;
    }
