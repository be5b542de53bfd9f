-- What is left of the proof that two choices are compared by the order.
use Rattle.std.proofs.Common.{length, arith, ◌∙◌}
use Rattle.std.proofs.lemmas.Bool.Decides.{nat_tests}
use Rattle.order.proofs.Orders.{better_numbered, lt_by_three}
use Rattle.order.proofs.compare.ahead.Goals as goal

pub returns : goal.returns
returns c =
    let r = c.rank_of.result in
    let s = c.rank_of-2.result in
    let p = c.rank_of.ensures in
    let q = c.rank_of-2.ensures in
    let h = c.requires.one in
    let k = c.requires.other in
    rw (better_numbered c.args.ring.weights.now (length c.args.ring.weights.now) c.args.one.choice c.args.other.choice)
    (c.lt.ensures ∙ lt_by_three r.weight s.weight r.pans s.pans r.shut s.shut
    ∙ grind (arith, nat_tests, p.weighs, q.weighs, p.counts, q.counts, p.shuts, q.shuts, h.weighs, k.weighs, h.counts, k.counts))
