-- The windows so far are kept, so the others decide.
use Rattle.std.proofs.Common.{◌≡◌, length, drop}
use Rattle.choices.specs.Numbered.{choice_of}
use Rattle.kinds.specs.Kinds.{in_windows}
use Rattle.kinds_halves.proofs.sums.Sums.keeps.Given as goal

abbrev pub invariant-loop-kind : goal.invariant-loop-kind
invariant-loop-kind l =
    let m = l.self.mixed in
    let ks = m.kinds.now in
    let ws = m.ring.weights.now in
    let cs = choice_of (length ws) l.choice in
    in_windows 0 m.windows.now ks ws cs ≡ in_windows l.kind (drop l.kind m.windows.now) ks ws cs
