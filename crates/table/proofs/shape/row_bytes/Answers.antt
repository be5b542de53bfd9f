-- What is left of the proof of the bytes that a row is asked to have.
use Rattle.std.proofs.Common.{arith}
use Rattle.table.specs.Pans.{pad_of, row_bytes}
use Rattle.table.proofs.shape.row_bytes.Goals as goal

pub returns-clause-is : goal.returns-clause-is
unfolding row_bytes pad_of
returns-clause-is c = omega (arith, c.min.ensures, c.width_of.ensures, c.width_of-2.ensures)
