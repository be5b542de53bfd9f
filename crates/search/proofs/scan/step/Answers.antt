-- What is left of the proof of one step of the search.
use Rattle.std.proofs.Common.{◌+◌, arith}
use Rattle.search.proofs.Steps.{sought_passed}
use Rattle.search.proofs.scan.step.Goals as goal

pub returns : goal.returns
returns g c =
    record {
      on = c.after.ensures.on;
      within = c.after.ensures.within;
      sought = sought_passed _ _ (c.args.at.next + 1) c.after.result c.consider-best.result (omega (arith, c.after.ensures.on)) c.consider-best.ensures (λ j l h. c.after.ensures.passed j (omega arith) h);
    }
