-- What is left of the proof of how many entries so many pans have.
use Rattle.std.proofs.Common.{arith}
use Rattle.std.proofs.lemmas.Nat.{one_shl}
use Rattle.halves.proofs.rooms.entries.Goals as goal

pub returns : goal.returns
returns c = one_shl c.args.pans 64 (omega (arith, c.requires))
