-- What is left of the proof that the best bag is answered.
use Rattle.std.proofs.Common.{◌∙◌, arith}
use Rattle.std.proofs.lemmas.Bool.{both_ways, not-true}
use Rattle.exact.proofs.Joining.{free_some, free_most}
use Rattle.exact.proofs.Bests.{left, known, best_chosen, chosen_fits, none_chosen, none_heavy}
use Rattle.exact.proofs.answer.best.Goals as goal
use Rattle.exact.proofs.answer.best.Goals.{then-not-old-via-then-not-old, then-not-old-via-else-not-old+then-old-rule, then-not-old-via-else-not-old+else-old-rule+then-old-rule-2, then-heaviest-left-via-then-heaviest-left, then-heaviest-left-via-else-heaviest-left+then-room-wide}

pub returns-then-not-old : goal.returns-then-not-old
returns-then-not-old c =
    λ room cs e.
    let k = known c.args.ring.ordered.paired e in
    let h = c.old_pans-old.ensures in
    elim c.then-not-old.branch [
      | then-not-old-via-then-not-old w ↦ both_ways _ (not-true _ w.if-not-old.true) (h.fills ∙ k.fills)
      | then-not-old-via-else-not-old+then-old-rule w ↦ omega (arith, k.old_few, h.counts, w.if-old-rule.true)
      | then-not-old-via-else-not-old+else-old-rule+then-old-rule-2 w ↦ omega (arith, k.light, h.weighs, w.if-old-rule-2.true)
    ]

pub returns-then-heaviest-left : goal.returns-then-heaviest-left
returns-then-heaviest-left c =
    λ room cs e.
    let r = c.args.ring in
    let l = left r.rule c.old_pans-old.ensures r.ordered.paired r.ordered.few r.ruled.target c.if-not-old.false c.if-old-rule.false c.if-old-rule-2.false in
    elim c.then-heaviest-left.branch [
      | then-heaviest-left-via-then-heaviest-left w ↦ none_heavy l w.if-heaviest-left.true (rw c.free_weights.ensures at c.heaviest.ensures.heaviest) e
      | then-heaviest-left-via-else-heaviest-left+then-room-wide w ↦ omega (arith, w.if-room-wide.true)
    ]

pub few-requires-clause-some : goal.few-requires-clause-some
few-requires-clause-some c = let r = c.args.ring in rw c.free_weights.ensures (free_some r.rule.age r.weights.now r.ages.now r.ordered.paired)

pub few-requires-clause-all : goal.few-requires-clause-all
few-requires-clause-all c = let r = c.args.ring in rw c.free_weights.ensures (free_most r.rule.age r.weights.now r.ages.now r.ordered.paired r.ordered.light)

pub returns-in_err-more : goal.returns-in_err-more
returns-in_err-more c =
    let r = c.args.ring in
    let h = c.old_pans-old.ensures in
    let l = left r.rule h r.ordered.paired r.ordered.few r.ruled.target c.if-not-old.false c.if-old-rule.false c.if-old-rule-2.false in
    let none = rw (c.free_weights.ensures, h.counts) at c.in_err-more.ensures in
    rw c.from_residual.ensures (λ room cs e. none_chosen l none e)

pub overflow_add-result : goal.overflow_add-result
overflow_add-result c =
    let r = c.args.ring in
    let h = c.old_pans-old.ensures in
    let l = left r.rule h r.ordered.paired r.ordered.few r.ruled.target c.if-not-old.false c.if-old-rule.false c.if-old-rule-2.false in
    let s = rw (c.free_weights.ensures, h.counts) at c.in_ok-more.ensures in
    omega (arith, h.numbers, chosen_fits l s)

pub returns : goal.returns
returns c =
    let r = c.args.ring in
    let h = c.old_pans-old.ensures in
    let l = left r.rule h r.ordered.paired r.ordered.few r.ruled.target c.if-not-old.false c.if-old-rule.false c.if-old-rule-2.false in
    let s = rw (c.free_weights.ensures, h.counts) at c.in_ok-more.ensures in
    rw h.numbers (best_chosen l s)
