-- What is left of the proof of the test of a block.
use Rattle.std.proofs.Common.{◌≡◌, ℕ, ◌+◌, ◌-◌, ◌*◌, ◌%◌, ◌^◌, ◌≤◌, length, arith}
use Rattle.std.proofs.lemmas.Nat.{one_shl, pow_pos}
use Rattle.std.proofs.lemmas.Bool.{ltb-true}
use Rattle.search.proofs.Groups.{narrow}
use Rattle.search.proofs.Useless.{heavy, many, empty, light, shut}
use Rattle.search.proofs.ring.useless.Goals as goal
use Rattle.search.proofs.ring.useless.Goals.{then-least-most-via-then-least-most, then-least-most-via-else-least-most+then-least-rule, then-least-most-via-else-least-most+else-least-rule+then-least-gt0}

-- the last of the block, as it is worked out
last : (n head free : ℕ) → n ≤ 24 → head + 2 ^ free ≤ 2 ^ n → head + (1 * 2 ^ free) % 18446744073709551616 - 1 ≡ head + 2 ^ free - 1
last n head free few within = rw (one_shl free 64 (omega (arith, narrow n head free within)))

pub tally-least-requires : goal.tally-least-requires
tally-least-requires g c = omega (arith, c.requires.1, pow_pos c.args.free)

pub returns-then-least-most : goal.returns-then-least-most
returns-then-least-most g c _ =
    let h = c.tally-least.ensures in
    elim c.then-least-most.branch [
      | then-least-most-via-then-least-most w ↦ heavy _ _ _ c.args.head _ _ c.requires.0 c.requires.1 (omega (arith, h.weighs, w.if-least-most.true))
      | then-least-most-via-else-least-most+then-least-rule w ↦ many _ _ _ c.args.head _ _ c.requires.0 c.requires.1 (omega (arith, h.counts, w.if-least-rule.true))
      | then-least-most-via-else-least-most+else-least-rule+then-least-gt0 w ↦ empty _ _ _ c.args.head _ _ c.requires.0 c.requires.1 (omega (arith, h.empties, w.if-least-gt0.true))
    ]

pub overflow_shl-free : goal.overflow_shl-free
overflow_shl-free g c = let ring = c.args.tallies.now.ring in omega (arith, ring.ordered.few, narrow (length ring.weights.now) c.args.head c.args.free c.requires.1)

pub tally-whole-requires : goal.tally-whole-requires
tally-whole-requires g c =
    let ring = c.args.tallies.now.ring in
    omega (arith, c.requires.1, pow_pos c.args.free, last (length ring.weights.now) c.args.head c.args.free ring.ordered.few c.requires.1)

pub returns-then-whole-rule : goal.returns-then-whole-rule
returns-then-whole-rule g c _ =
    let ring = c.args.tallies.now.ring in
    let h = rw (last (length ring.weights.now) c.args.head c.args.free ring.ordered.few c.requires.1) at c.tally-whole.ensures in
    light _ _ _ c.args.head _ _ c.requires.0 c.requires.1 (omega (arith, h.weighs, c.if-whole-rule.true))

pub returns-else-whole-rule : goal.returns-else-whole-rule
returns-else-whole-rule g c e =
    let ring = c.args.tallies.now.ring in
    let h = rw (last (length ring.weights.now) c.args.head c.args.free ring.ordered.few c.requires.1) at c.tally-whole.ensures in
    shut _ _ _ c.args.head _ _ c.requires.0 c.requires.1 ring.ordered.paired (omega (arith, h.olds, c.args.tallies.now.old_counted, ltb-true _ _ e))
