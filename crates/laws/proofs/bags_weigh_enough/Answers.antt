-- The law's proof.
use Rattle.laws.proofs.Rows.{bags_weigh_enough}
use Rattle.laws.proofs.bags_weigh_enough.Goals as goal

pub returns : goal.returns
returns g c = bags_weigh_enough g.met.K.Kind.lawful
