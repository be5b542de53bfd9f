-- What is left of the proof that the halves of a ring are filled.
use Rattle.std.proofs.Common.{rules}
use Rattle.halves.proofs.ring_halves.fill_for.Goals as goal

pub returns : goal.returns
returns c =
    record {
      filled = rw c.ways-made.ensures.front at c.fill.ensures.filled;
      limit = search rules;
      least = search rules;
      to = search rules;
    }
