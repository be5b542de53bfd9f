-- What is left of the proof where the list of handfuls is empty.
use Rattle.std.proofs.Common.{length, sym}
use Rattle.std.proofs.lemmas.Bool.{eqb-true}
use Rattle.seasons.proofs.Filling.{nothing_falls}
use Rattle.seasons.proofs.handfuls.refill.Goals as goal

pub returns-then-is_empty : goal.returns-then-is_empty
returns-then-is_empty c =
    let hs = c.args.handfuls.now in
    let e = nothing_falls hs c.args.weights.now c.args.from (eqb-true (length hs) 0 (sym c.if-is_empty.ensures)) in
    record { value = e.0; within = c.requires; after = e.1 }
