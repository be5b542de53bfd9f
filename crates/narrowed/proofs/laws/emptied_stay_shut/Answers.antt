-- The laws of pans that are emptied.
use Rattle.narrowed.proofs.Narrowing.{emptied_stay_shut, emptied_weighs}
use Rattle.narrowed.proofs.laws.emptied_stay_shut.Goals as goal

pub returns : goal.returns
returns c = record { fits = emptied_stay_shut; weighs = emptied_weighs }
