-- What is left of the proof that the room for 24 pans is enough for fewer.
use Rattle.std.proofs.Common.{◌^◌, ◌≤◌, refl, arith, pow_mono}
use Rattle.halves.specs.Entries.{half_of}
use Rattle.halves.proofs.rooms.full_room.Goals as goal

pub returns : goal.returns
returns c =
    record {
      value = refl;
      enough = λ n l.
          let f : 2 ^ half_of n ≤ 2 ^ 11 = pow_mono {j = 11} (omega arith) in
          omega arith;
    }
