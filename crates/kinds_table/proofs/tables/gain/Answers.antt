-- What is left of the proof of what it costs to open a pan.
use Rattle.std.proofs.Common.{◌-◌, arith}
use Rattle.std.proofs.lemmas.Nat.{one_shl, pow_below}
use Rattle.kinds_table.proofs.tables.gain.Goals as goal

pub overflow_sub-result-3 : goal.overflow_sub-result-3
overflow_sub-result-3 c =
    let n = c.args.pans - 1 - c.args.pan in
    omega (arith, c.requires, one_shl n 32 (omega (arith, c.requires)), pow_below n 24 (omega (arith, c.requires)))
