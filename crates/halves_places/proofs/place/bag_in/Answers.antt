-- What is left of the proof of the bag that a place stands for.
use Rattle.std.proofs.Common.{length, sym, refl, ◌∙◌, arith}
use Rattle.std.proofs.lemmas.Nat.{one_shl}
use Rattle.halves_places.proofs.Places.{place_says}
use Rattle.halves_places.proofs.Rings.{opened_pans}
use Rattle.halves_places.proofs.place.bag_in.Goals as goal

pub returns : goal.returns
returns c = λ cs e at.
    let ws = c.args.ring.weights.now in (
      rw (one_shl (length ws) 64 (omega (arith, c.args.ring.ordered.few)), sym at) at c.number.ensures ∙ opened_pans ws cs (length ws) c.args.ring.ordered.few refl e,
      c.weight_in.ensures ∙ rw at at (place_says ws cs c.args.ring.ordered.few e).0,
    )
