-- What is left of the proof of the least sum of a row that passes.
use Rattle.kinds_halves.proofs.Walking.{first_useless}
use Rattle.kinds_halves.proofs.row.Row.first.Goals as goal

pub returns-then-useless : goal.returns-then-useless
returns-then-useless c = first_useless _ _ _ c.args.self.back.now c.args.self.free c.args.at c.args.to c.args.self.shut (c.useless.ensures c.if-useless.true)
