-- The numbers in decimal, and how the season ended.
use Rattle.std.proofs.Common.{◌≡◌, cond, [], codes, arith}
use Rattle.text.proofs.Numerals.{decimal_is}
use Rattle.text.proofs.Printing.{put_as}
use Rattle.desk.proofs.printed.put_season.Goals as goal
use Rattle.desk.proofs.printed.put_season.Goals.{then-ended_early, else-ended_early}

pub returns : goal.returns
returns g c = λ plain ok.
    let season = c.args.season in
    let ending : c.if-ended_early.ending.now ≡ cond season.ended_early (codes ", then none") [] =
    elim c.if-ended_early.branch [
      | then-ended_early w ↦ rw (w.ending-is, w.if-ended_early.true)
      | else-ended_early w ↦ rw (w.ending-is, w.if-ended_early.false)
    ] in
    put_as (c.write.ensures.writes plain ok)
    (rw (decimal_is season.bags (omega arith), decimal_is season.weight (omega arith), decimal_is season.given_away (omega arith), ending))
