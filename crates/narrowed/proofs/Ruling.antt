-- Other rules for a ring: what a looser one allows, and what it finds.
use Rattle.std.proofs.Common.{◌≡◌, ℕ, ◌≤◌, List, Some, None, refl, arith}
use Rattle.std.proofs.lemmas.Bool.{both_ways}
use Rattle.choices.specs.Choice.{fits}
use Rattle.choices.specs.Stand.{stand}
use Rattle.choices.proofs.Leaving.{looser_fits}
use Rattle.order.proofs.Orders.{no_lighter}
use Rattle.order.proofs.Over.{none_of_more}
use Rattle.narrowed.specs.Laws.{LooserFinds, LooserStillFits, NoneStays}

pub looser_still_fits : LooserStillFits
looser_still_fits r q ws as' cs l h = looser_fits (stand ws as') cs l h

pub none_stays : NoneStays
none_stays r q ws as' l = none_of_more (fits q ws as') (fits r ws as') (λ cs. looser_still_fits r q ws as' cs l)

pub looser_finds : LooserFinds
looser_finds r q ws as' b None l f none = absurd (both_ways (fits q ws as' f.choice) (none f.choice) (looser_still_fits r q ws as' f.choice l f.best.allowed))
looser_finds r q ws as' b (Some d) l f g =
    (d, refl, omega (arith, f.weighs, g.weighs, no_lighter ws g.choice f.choice (g.best.unbeaten f.choice (looser_still_fits r q ws as' f.choice l f.best.allowed))))
