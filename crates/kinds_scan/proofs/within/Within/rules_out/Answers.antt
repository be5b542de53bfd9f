-- What is left of the proof of when the window rules a block out.
use Rattle.std.proofs.Common.{◌≡◌, ◌*◌, ◌%◌, ◌^◌, length, arith}
use Rattle.std.proofs.lemmas.Nat.{one_shl}
use Rattle.std.proofs.lemmas.Bool.{ltb-true}
use Rattle.search.proofs.Groups.{narrow}
use Rattle.kinds_scan.proofs.Testing.{too_much, too_little}
use Rattle.kinds_scan.proofs.within.Within.rules_out.Goals as goal

pub overflow_shl-free : goal.overflow_shl-free
overflow_shl-free g c =
    let ring = c.args.self.now.own.ring in omega (arith, ring.ordered.few, narrow (length ring.weights.now) c.args.head c.args.free c.requires.1)

pub returns-then-weight-self : goal.returns-then-weight-self
returns-then-weight-self g c e =
    let s = c.args.self.now in
    too_much s.window s.own.ring.weights.now c.args.head c.args.free c.requires.0 (omega (arith, c.weight.ensures, ltb-true _ _ e))

pub returns-else-weight-self : goal.returns-else-weight-self
returns-else-weight-self g c e =
    let s = c.args.self.now in
    let n = length s.own.ring.weights.now in
    let shift : (1 * 2 ^ c.args.free) % 18446744073709551616 ≡ 2 ^ c.args.free =
    one_shl c.args.free 64 (omega (arith, s.own.ring.ordered.few, narrow n c.args.head c.args.free c.requires.1)) in
    let h = rw shift at c.weight-else-weight-self.ensures in
    too_little s.window s.own.ring.weights.now c.args.head c.args.free c.requires.0 (omega (arith, h, ltb-true _ _ e))
