-- The law that both entries answer the same and leave the same.
use Rattle.packing.proofs.Making.{entries_agree}
use Rattle.packing.proofs.laws.entries_agree.Goals as goal

pub returns : goal.returns
returns c = entries_agree
