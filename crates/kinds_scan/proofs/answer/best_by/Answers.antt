-- What is left of the proof that the best of all choices is found.
use Rattle.std.proofs.Common.{length}
use Rattle.choices.specs.Numbered.{choice_of}
use Rattle.kinds_scan.proofs.Looking.{none_by, best_by}
use Rattle.kinds_scan.proofs.answer.best_by.Goals as goal

pub returns-in_err-k : goal.returns-in_err-k
returns-in_err-k g c = rw c.from_residual.ensures (none_by c.args.mixed c.requires c.in_err-k.ensures)

pub returns : goal.returns
returns g c =
    record {
      choice = choice_of (length c.args.mixed.ring.weights.now) c.in_ok-k.field-0;
      best = best_by c.args.mixed c.requires c.in_ok-k.field-0 c.in_ok-k.ensures;
      number = c.number.ensures;
      weighs = c.weight.ensures;
    }
