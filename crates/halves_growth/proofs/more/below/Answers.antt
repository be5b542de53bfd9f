-- What is left of the proof of how many entries stay below the bound.
use Rattle.std.proofs.Common.{ltb, ltb-true, ltb-false, arith, rules}
use Rattle.std.proofs.lemmas.List.Sorted.{IsPartitionPoint-from_clause, IsPartitionedBy-ltb, IsNonDecreasingBy-from_default}
use Rattle.halves_growth.proofs.more.below.Goals as goal

pub returns : goal.returns
returns c =
    let under = c.saturating_sub-under.result in
    let parted = IsPartitionedBy-ltb (λ e. e) _ under (IsNonDecreasingBy-from_default (λ e. e) c.args.es.now 0 c.requires) in
    let point = IsPartitionPoint-from_clause (λ e. ltb e under) _ _ c.partition_point.ensures.partitioned parted (λ a r q k. search rules) in
    record {
      few = c.partition_point.ensures.bound;
      low = λ p l. omega (arith, ltb-true _ _ (point.0 p 0 (omega arith) l), c.saturating_sub-under.ensures);
      high = λ p a l. omega (arith, ltb-false _ _ (point.1 p 0 a l), c.saturating_sub-under.ensures);
    }
