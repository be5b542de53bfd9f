-- What is left of the proof that what a kind has in a choice's groups adds up.
use Rattle.std.proofs.Common.{arith}
use Rattle.kinds_halves.proofs.Groups.{four, four_fit}
use Rattle.kinds_halves.proofs.sums.Sums.sum.Goals as goal

pub overflow_add-result : goal.overflow_add-result
overflow_add-result c = let s = c.args.self.now in omega (arith, four s c.args.kind c.requires.kind c.args.choice c.requires.choice, four_fit s c.args.kind c.requires.kind c.args.choice)

pub overflow_add-result-2 : goal.overflow_add-result-2
overflow_add-result-2 c = let s = c.args.self.now in omega (arith, four s c.args.kind c.requires.kind c.args.choice c.requires.choice, four_fit s c.args.kind c.requires.kind c.args.choice)

pub overflow_add-result-3 : goal.overflow_add-result-3
overflow_add-result-3 c = let s = c.args.self.now in omega (arith, four s c.args.kind c.requires.kind c.args.choice c.requires.choice, four_fit s c.args.kind c.requires.kind c.args.choice)

pub returns : goal.returns
returns c = four c.args.self.now c.args.kind c.requires.kind c.args.choice c.requires.choice
