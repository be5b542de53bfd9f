-- What is left of the proof of the pans' ways.
use Rattle.std.proofs.Common.{◌≡◌, ℕ, ◌<◌, ◌≤◌, length, get_or, rules, arith}
use Rattle.halves_places.specs.Ring.{neither, way}
use Rattle.halves_places.specs.declared.way.Way.{Way}
use Rattle.choices.proofs.Made.{made_each}
use Rattle.halves_places.proofs.Rings.{ways_made}
use Rattle.halves_places.proofs.ring.ways.Goals as goal

pub returns-clause-front : goal.returns-clause-front
returns-clause-front c =
    let ring = c.args.ring in
    let ws = ring.weights.now in
    let P : ℕ → Way → Type 0 = λ k w. k < length ws → w ≡ way ring.rule.age (get_or ws k 0) (get_or ring.ages.now k 0) in
    ways_made ring.rule.age ws ring.ages.now _ ring.ordered.paired (omega (arith, ring.ordered.few, c.from_fn.ensures.items.long)) (λ k d l. made_each c.from_fn.ensures.items P (λ x r q called. search rules) k d (omega (arith, ring.ordered.few)) l)

pub returns-clause-others : goal.returns-clause-others
returns-clause-others c k d l few = made_each c.from_fn.ensures.items (λ (k : ℕ) (w : Way). length c.args.ring.weights.now ≤ k → w ≡ neither) (λ x r q called. search rules) k d few l
