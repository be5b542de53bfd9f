use Rattle.std.proofs.Common.{◌≡◌, ◌∙◌, sym, ℕ}
use Rattle.std.specs.Prelude.{None}
use Rattle.explaining.specs.Flaws.{flaw_at}
use Rattle.explaining.proofs.Nearness.{below_more}
use Rattle.explaining.proofs.flaws.first_flaw.Goals as goal

pub loop-place-preserved : goal.loop-place-preserved
loop-place-preserved c = below_more (λ (k : ℕ). flaw_at c.args.line.now k ≡ None) c.loop-place.place c.loop-place.invariant (sym c.flaw_at.ensures ∙ c.in_default.is)
