-- What is left of the proof that one candidate more is considered.
use Rattle.std.proofs.Common.{Some, sym}
use Rattle.search.proofs.Steps.{sought_kept, passes_shut, sought_first, sought_takes}
use Rattle.search.proofs.scan.consider.Goals as goal

pub returns-then-not-allows : goal.returns-then-not-allows
returns-then-not-allows g c =
    sought_kept _ _ c.args.k c.args.best c.requires.1 (passes_shut _ _ c.args.k c.args.best (sym c.if-not-allows.ensures))

pub returns-in-None : goal.returns-in-None
returns-in-None g c =
    sought_first _ _ (g.C.Criterion.ranks c.args.criterion.now) c.args.k (rw c.in-None.is at c.requires.1) (sym c.if-not-allows.ensures)

pub returns-then-beats : goal.returns-then-beats
returns-then-beats g c =
    sought_takes _ _ (g.C.Criterion.ranks c.args.criterion.now) c.args.k c.in-Some.b (rw c.in-Some.is at c.requires.1) (sym c.if-not-allows.ensures) (sym c.if-beats.ensures)

pub returns-else-beats : goal.returns-else-beats
returns-else-beats g c =
    sought_kept _ _ c.args.k (Some c.in-Some.b) (rw c.in-Some.is at c.requires.1) (λ a. sym c.if-beats.ensures)
