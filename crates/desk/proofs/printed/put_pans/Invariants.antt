-- The pans so far are written.
use Rattle.std.specs.Fmt.{IsPlainFormatter, HasWritten}
use Rattle.text.specs.Written.{spaced}
use Rattle.desk.specs.Printed.{pans_below}
use Rattle.desk.proofs.printed.put_pans.Given as goal

abbrev pub invariant-loop-pan : goal.invariant-loop-pan
invariant-loop-pan g l = IsPlainFormatter l.initial.f → HasWritten g.W.Write.write_str_gives l.initial.f (spaced (pans_below l.pan l.pans)) l.f
