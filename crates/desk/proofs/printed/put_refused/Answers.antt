-- The number and the place in decimal.
use Rattle.std.proofs.Common.{arith}
use Rattle.text.proofs.Numerals.{decimal_is}
use Rattle.text.proofs.Printing.{put_as}
use Rattle.desk.proofs.printed.put_refused.Goals as goal

pub returns : goal.returns
returns g c = λ plain ok.
    put_as (c.write.ensures.writes plain ok)
    (rw (decimal_is c.number-number.result (omega arith), decimal_is c.place-place.result (omega arith), c.number-number.ensures, c.place-place.ensures))
