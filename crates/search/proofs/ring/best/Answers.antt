-- What is left of the proof that the scan finds the best of all choices.
use Rattle.std.proofs.Common.{length, ◌∙◌, arith}
use Rattle.std.proofs.lemmas.Nat.{one_shl}
use Rattle.choices.specs.Choice.{fits}
use Rattle.choices.specs.Numbered.{choice_of}
use Rattle.choices.proofs.Choices.{fitting}
use Rattle.choices.proofs.Tallies.{all_opened}
use Rattle.search.proofs.Useless.{too_light}
use Rattle.search.proofs.Whole.{none_whatever, best_whatever}
use Rattle.search.proofs.ring.best.Goals as goal

pub returns-then-all-ring : goal.returns-then-all-ring
returns-then-all-ring c =
    let r = c.args.ring in
    let ws = r.weights.now in
    let h = rw (one_shl (length ws) 32 (omega (arith, r.ordered.few))) at c.look-all.ensures in
    none_whatever (fits r.rule ws r.ages.now) ws (length ws) (λ cs h. (fitting _ _ _ cs h).whole) (too_light r.rule ws r.ages.now (omega (arith, h.weighs, c.if-all-ring.true)))

pub best_number-requires : goal.best_number-requires
best_number-requires c =
    let r = c.args.ring in
    let ws = r.weights.now in
    let h = rw (one_shl (length ws) 32 (omega (arith, r.ordered.few))) at c.look-all.ensures in
    h.olds ∙ rw r.ordered.paired at (all_opened r.rule.age r.ages.now)

pub returns-in_err-k : goal.returns-in_err-k
returns-in_err-k c =
    let ws = c.args.ring.weights.now in
    let may = fits c.args.ring.rule ws c.args.ring.ages.now in
    rw c.from_residual.ensures (none_whatever may ws (length ws) (λ cs h. (fitting _ _ _ cs h).whole) c.in_err-k.ensures)

pub returns : goal.returns
returns c =
    let ws = c.args.ring.weights.now in
    let may = fits c.args.ring.rule ws c.args.ring.ages.now in
    record {
      choice = choice_of (length ws) c.in_ok-k.field-0;
      best = best_whatever may ws (length ws) (λ cs h. (fitting _ _ _ cs h).whole) c.in_ok-k.field-0 c.in_ok-k.ensures;
      number = c.number.ensures;
      weighs = c.weight.ensures;
    }
