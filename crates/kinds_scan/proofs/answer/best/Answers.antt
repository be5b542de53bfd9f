-- What is left of the proof that all four kinds are looked at where there are four.
use Rattle.std.proofs.Common.{◌≡◌, length, arith}
use Rattle.kinds_scan.proofs.answer.best.Goals as goal

pub best_by-requires-2 : goal.best_by-requires-2
best_by-requires-2 c = let x = c.args.mixed in let e : length x.windows.now ≡ 4 = omega (arith, x.some, x.few) in rw e c.with_kind.ensures
