-- The number is written after its blank.
use Rattle.std.proofs.Common.{◌∷◌, sym, ap, ◌∙◌, append-nil, arith}
use Rattle.text.proofs.Numerals.{decimal_is}
use Rattle.text.proofs.Printing.{put_as}
use Rattle.text.proofs.numbers.put_number.Goals as goal

pub returns : goal.returns
returns g c = λ plain ok. put_as (c.write.ensures.writes plain ok) (ap (λ l. 32 ∷ l) (decimal_is c.args.n (omega arith) ∙ sym (append-nil _)))
