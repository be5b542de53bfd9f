-- What is left of the proof that what is passed over is of no use.
use Rattle.std.proofs.Common.{◌≡◌, ◌*◌, ◌%◌, ◌^◌, length, refl, arith}
use Rattle.std.proofs.lemmas.Nat.{one_shl, pow_pos}
use Rattle.search.proofs.Groups.{block}
use Rattle.search.proofs.Useless.{pass_none, pass_some}
use Rattle.search.proofs.ring.LentCriterion.after.Goals as goal
use Rattle.search.proofs.ring.LentCriterion.after.Goals.{in-None, in-Some}

pub tally-requires : goal.tally-requires
tally-requires g c = omega (arith, c.requires.0, rw c.in-Some.is at c.requires.1)

pub useless-requires : goal.useless-requires
useless-requires g c =
    (omega arith, block (length c.args.self.now.ring.weights.now) c.args.k c.min-free.result (omega (arith, c.min-free.ensures)) (omega (arith, c.min-free.ensures)) c.requires.0)

pub returns-then-useless : goal.returns-then-useless
returns-then-useless g c =
    let k = c.args.k in
    let ring = c.args.self.now.ring in
    let t = c.min-free.result in
    let n = length ring.weights.now in
    let shift : (1 * 2 ^ t) % 18446744073709551616 ≡ 2 ^ t = one_shl t 64 (omega (arith, ring.ordered.few, c.min-free.ensures)) in
    let b = block n k t (omega (arith, c.min-free.ensures)) (omega (arith, c.min-free.ensures)) c.requires.0 in
    record {
      on = omega (arith, shift, pow_pos t);
      within = rw shift b.1;
      passed = λ j l h.
          let over = c.if-useless.ensures refl j l (omega (arith, shift, h)) in
          elim c.match-best.branch [
            | in-None w ↦ rw w.in-None.is (pass_none ring.rule ring.weights.now ring.ages.now c.match-best.most j w.most-is over)
            | in-Some w ↦ rw w.in-Some.is (λ f. pass_some ring.rule ring.weights.now ring.ages.now c.match-best.most j w.in-Some.b (omega (arith, w.most-is, w.tally.ensures.weighs)) (over f))
          ];
    }
