-- What a season keeps from bag to bag: how far it is, and how long the rooms are.
use Rattle.std.proofs.Common.{◌≡◌}
use Rattle.choices.specs.Stand.{stand}
use Rattle.seasons.proofs.Playing.{Playing}
use Rattle.seasons.proofs.run.play.Given as goal

abbrev pub invariant-loop-made : goal.invariant-loop-made
invariant-loop-made g l =
    Playing g.K.Kind.allows g.K.Kind.after l.handfuls l.initial.kind (stand l.initial.weights l.initial.ages) l.kind (stand l.weights l.ages) l.next l.made l.weight
    × (g.K.Kind.size l.rooms ≡ g.K.Kind.size l.initial.rooms)
