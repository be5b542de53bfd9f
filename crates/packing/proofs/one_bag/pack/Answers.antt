-- What is left of the proof that a bag is made.
use Rattle.choices.specs.Stand.{stand}
use Rattle.packing.proofs.Making.{made_by, kept_by}
use Rattle.packing.proofs.one_bag.pack.Goals as goal

pub returns-clause-bag : goal.returns-clause-bag
returns-clause-bag g c =
    let s = stand c.args.weights.now c.args.ages.now in
    made_by (g.met.K.Kind.lawful.sound c.args.kind.now s) c.in_ok-bag.ensures.found c.requires.pans.paired c.open_pans.ensures.empties c.open_pans.ensures.ages

pub returns-clause-keeps : goal.returns-clause-keeps
returns-clause-keeps g c =
    let s = stand c.args.weights.now c.args.ages.now in
    let law = g.met.K.Kind.lawful in
    kept_by {may = g.K.Kind.allows c.args.kind.now} (law.sound c.args.kind.now s) (law.old _ _ _ c.requires.numbers) c.requires.pans
    (made_by (law.sound c.args.kind.now s) c.in_ok-bag.ensures.found c.requires.pans.paired c.open_pans.ensures.empties c.open_pans.ensures.ages)
