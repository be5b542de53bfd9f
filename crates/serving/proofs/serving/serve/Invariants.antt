-- So many lines were heard and answered.
use Rattle.std.specs.Io.Buffered.{reader_remaining}
use Rattle.desk.specs.Kept.{state_of}
use Rattle.serving.proofs.Running.{Running}
use Rattle.serving.proofs.serving.serve.Given as goal

abbrev pub invariant-loop-number : goal.invariant-loop-number
invariant-loop-number g l =
    Running l.manner.strict (reader_remaining g.R.Read.remaining l.initial.input) (reader_remaining g.R.Read.remaining l.input)
    (state_of l.initial.desk) (state_of l.desk) (g.W.Write.contents l.initial.out) (g.W.Write.contents l.out) l.number
