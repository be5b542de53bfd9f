-- What is left of the proof of what is kept of a half.
use Rattle.std.proofs.Common.{arith}
use Rattle.halves.proofs.Cutting.{half_from}
use Rattle.halves.proofs.RoomParts.{half_whole}
use Rattle.halves.proofs.halves.kept.Goals as goal

pub thin-n-requires : goal.thin-n-requires
thin-n-requires c = c.requires.rises

pub returns : goal.returns
returns c =
    let s = c.args.span in
    half_whole _ _ _ s.skip s.len _ _ (omega (arith, c.thin-n.ensures.fewer, c.thin-n.auto.es))
    (half_from _ _ _ s.skip s.len _ _ _ _ s.within s.pans.few s.pans.paired c.requires c.thin-n.ensures)
