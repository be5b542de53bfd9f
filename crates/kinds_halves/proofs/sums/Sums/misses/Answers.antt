-- What is left of the proof that nothing between two choices keeps the windows.
use Rattle.std.proofs.Common.{inl, inr, arith}
use Rattle.kinds.specs.declared.mixed.Window.{Window}
use Rattle.kinds_halves.proofs.Skipping.{window_missed}
use Rattle.kinds_halves.proofs.sums.Sums.misses.Goals as goal
use Rattle.kinds_halves.proofs.sums.Sums.misses.Goals.{then-sum-window-via-then-sum-window, then-sum-window-via-else-sum-window+then-sum-window-2}

pub returns-then-sum-window : goal.returns-then-sum-window
returns-then-sum-window c = λ e cs b.
    let m = c.args.self.now.mixed in
    let none : Window = record { least = 0; most = 0 } in
    let missed = window_missed m.windows.now c.loop-kind.kind none m.kinds.now m.ring.weights.now c.args.barest c.args.fullest cs c.loop-kind-test.true b in
    elim c.then-sum-window.branch [
      | then-sum-window-via-then-sum-window w ↦ missed (inl (omega (arith, w.if-sum-window.true, c.sum.ensures)))
      | then-sum-window-via-else-sum-window+then-sum-window-2 w ↦ missed (inr (omega (arith, w.if-sum-window-2.true, w.sum-else-sum-window.ensures)))
    ]
