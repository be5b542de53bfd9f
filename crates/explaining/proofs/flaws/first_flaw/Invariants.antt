-- No place before this one has a flaw.
use Rattle.std.proofs.Common.{◌≡◌, ◌<◌, ℕ}
use Rattle.std.specs.Prelude.{None}
use Rattle.explaining.specs.Flaws.{flaw_at}
use Rattle.explaining.proofs.flaws.first_flaw.Given as goal

abbrev pub invariant-loop-place : goal.invariant-loop-place
invariant-loop-place l = (k : ℕ) → k < l.place → flaw_at l.line k ≡ None
