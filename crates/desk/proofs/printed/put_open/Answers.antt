-- The word, the pans and the weight, one after another.
use Rattle.std.proofs.Common.{◌++◌, codes, refl, arith}
use Rattle.desk.specs.Printed.{pans_below}
use Rattle.text.specs.Written.{numeral, spaced}
use Rattle.text.proofs.Numerals.{decimal_is}
use Rattle.text.proofs.Printing.{put_then}
use Rattle.desk.proofs.printed.put_open.Goals as goal

pub returns : goal.returns
returns g c = λ plain ok.
    put_then (c.in_ok-write_str.ensures.writes plain refl)
    (λ still. put_then {t = spaced (pans_below 32 c.args.bag.pans) ++ (codes ": " ++ numeral c.args.bag.weight)} (c.in_ok-put_pans.ensures still refl) (λ on. c.write.ensures.writes on ok) (rw (decimal_is c.args.bag.weight (omega arith))))
    refl
