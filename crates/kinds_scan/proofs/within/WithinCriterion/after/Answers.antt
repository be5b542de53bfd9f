-- What is left of the proof that what is passed over is of no use.
use Rattle.std.proofs.Common.{◌≡◌, ◌*◌, ◌%◌, ◌^◌, length, refl, arith}
use Rattle.std.proofs.lemmas.Nat.{one_shl, pow_pos}
use Rattle.search.proofs.Groups.{block}
use Rattle.search.proofs.Steps.{passes_shut}
use Rattle.kinds_scan.proofs.Testing.{and_shut, passes_less}
use Rattle.kinds_scan.proofs.within.WithinCriterion.after.Goals as goal

pub rules_out-requires : goal.rules_out-requires
rules_out-requires g c =
    let s = c.args.self.now in
    block (length s.own.ring.weights.now) c.args.k c.min-free.result (omega (arith, c.min-free.ensures)) (omega (arith, c.min-free.ensures)) (rw s.same at c.requires.0)

pub returns-then-rules_out : goal.returns-then-rules_out
returns-then-rules_out g c =
    let s = c.args.self.now in
    let ring = s.own.ring in
    let t = c.min-free.result in
    let shift : (1 * 2 ^ t) % 18446744073709551616 ≡ 2 ^ t = one_shl t 64 (omega (arith, ring.ordered.few, c.min-free.ensures)) in
    let b = block (length ring.weights.now) c.args.k t (omega (arith, c.min-free.ensures)) (omega (arith, c.min-free.ensures)) (rw s.same at c.requires.0) in
    record {
      on = omega (arith, shift, pow_pos t);
      within = rw (s.same, shift) b.1;
      passed = λ j l h. passes_shut _ _ j c.args.best (and_shut _ _ (c.if-rules_out.ensures refl j l (omega (arith, shift, h))));
    }

pub returns-else-next-end-clause-passed : goal.returns-else-next-end-clause-passed
returns-else-next-end-clause-passed g c j l h = passes_less _ _ _ j c.args.best (c.after-next.ensures.passed j l h)
