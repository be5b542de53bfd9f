-- What is left of the proof that what is promised of a bag is kept.
use Rattle.packing.proofs.Making.{promised}
use Rattle.packing.proofs.Refused.{passed_as}
use Rattle.packing.proofs.entry.bag.Goals as goal

pub returns-clause-promises : goal.returns-clause-promises
returns-clause-promises c =
    let same = (passed_as _ _ _ c.in_ok-rule.ensures.value).1 in
    promised _ _ _ c.pack.result (rw same at c.pack.ensures.keeps) (rw same at c.pack.ensures.bag)
