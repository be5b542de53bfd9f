-- One number more each turn.
use Rattle.std.proofs.Common.{refl, arith}
use Rattle.text.proofs.Printing.{put_then}
use Rattle.text.proofs.Spacing.{spaced_more}
use Rattle.text.proofs.numbers.put_numbers.Goals as goal

pub loop-n-preserved : goal.loop-n-preserved
loop-n-preserved g c = λ plain.
    put_then (c.loop-n.invariant plain) (λ still. c.in_ok-put_number.ensures still refl) (spaced_more c.args.numbers.now c.loop-n.n-index (omega arith))
