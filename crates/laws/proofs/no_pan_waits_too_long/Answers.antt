-- The law's proof.
use Rattle.laws.proofs.Rows.{no_pan_waits_too_long}
use Rattle.laws.proofs.no_pan_waits_too_long.Goals as goal

pub returns : goal.returns
returns g c = no_pan_waits_too_long g.met.K.Kind.lawful
