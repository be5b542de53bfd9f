-- The numbers are there, but not so many as the word takes.
use Rattle.std.proofs.Common.{length, ap, sym, ◌∙◌}
use Rattle.text.specs.Counts.{takes}
use Rattle.text.proofs.Lines.{not_so_many}
use Rattle.text.proofs.reading.behind.Goals as goal

pub returns-else-takes : goal.returns-else-takes
returns-else-takes c =
    let read = c.in_ok-numbers.ensures in
    let few = ap (λ ns. takes c.count-count.result (length ns)) (sym c.as_slice.ensures) ∙ sym c.takes.ensures ∙ c.if-takes.false in
    not_so_many _ _ _ read.1.0 read.1.1 read.1.2 (rw c.count-count.ensures at few)
