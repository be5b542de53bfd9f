-- One pan more is looked at each turn.
use Rattle.std.proofs.Common.{refl}
use Rattle.std.proofs.Output.{has_written_to_eq}
use Rattle.desk.specs.Printed.{pans_below}
use Rattle.desk.proofs.Opened.{pans_open, pans_shut}
use Rattle.text.proofs.Printing.{put_none, put_as, put_then}
use Rattle.desk.proofs.printed.put_pans.Goals as goal
use Rattle.desk.proofs.printed.put_pans.Goals.{then-pans-pan-eq1+in_ok-put_number, else-pans-pan-eq1}

pub loop-pan-init : goal.loop-pan-init
unfolding pans_below
loop-pan-init g c = λ plain. put_none plain

pub loop-pan-preserved : goal.loop-pan-preserved
loop-pan-preserved g c = λ plain.
    elim c.if-pans-pan-eq1.branch [
      | then-pans-pan-eq1+in_ok-put_number w ↦
          has_written_to_eq g.W.Write.write_str_gives _ _ _ _ w.f-is
          (put_then (c.loop-pan.invariant plain) (λ still. w.in_ok-put_number.ensures still refl) (pans_open c.loop-pan.pan c.args.pans w.if-pans-pan-eq1.true))
      | else-pans-pan-eq1 w ↦
          has_written_to_eq g.W.Write.write_str_gives _ _ _ _ w.f-is (put_as (c.loop-pan.invariant plain) (pans_shut c.loop-pan.pan c.args.pans w.if-pans-pan-eq1.false))
    ]
