-- What is left of the proof of the four.
use Rattle.std.proofs.Common.{◌≡◌, ℕ, ◌-◌, ◌<◌, length, get_or, min, rules, arith}
use Rattle.halves_sweeps.specs.Sweep.{Any, LeastSum}
use Rattle.halves_sweeps.specs.Lane.{Fresh}
use Rattle.halves_sweeps.specs.declared.lane.Lane.{Lane}
use Rattle.choices.proofs.Made.{made_each}
use Rattle.halves_sweeps.proofs.Sweeping.{least_fresh}
use Rattle.halves_sweeps.proofs.four.four.Goals as goal

pub returns : goal.returns
returns c =
    let ts = c.args.tops.now in
    let fs = c.args.lists.front.now in
    let bs = c.args.lists.back.now in
    let run = c.side_by_side-run.result in
    let e : Lane = record { from = 0; to = 0; at = 0; left = 0; found = 0 } in
    let P : ℕ → Lane → Type 0 = λ t x. Fresh (get_or ts (min t (length ts - 1)) 0) (length fs) c.args.from c.args.to x in
    let Q : ℕ → ℕ → Type 0 = λ t r. LeastSum Any fs bs (get_or run t e).from (get_or run t e).to r in
    let began = made_each c.from_fn-lanes.ensures.items P (λ x r q called. search rules) in
    let ended = made_each c.from_fn.ensures.items Q (λ x r q called. search rules) in
    λ t l.
    let m : t < 4 = omega (arith, c.requires.few) in
    let k : min t (length ts - 1) ≡ t = omega arith in
    least_fresh fs bs (get_or ts t 0) (length fs) c.args.from c.args.to _ _ _ _ (rw k at (began t e m)) (c.side_by_side-run.ensures.1.each t e m) (ended t 0 m)
