-- What is left of the proof of the weights of one kind.
use Rattle.std.proofs.Common.{◌≡◌, ◌<◌, ◌≤◌, length, take, sym, ◌∙◌, arith}
use Rattle.std.proofs.lemmas.List.{length-take-le, get_or-take, get_or_default, same_lists}
use Rattle.kinds.proofs.Weighing.{length-of_kind, of_kind_at}
use Rattle.kinds_scan.proofs.own.own_weights.Goals as goal

pub returns : goal.returns
returns c =
    let x = c.args.mixed in
    let ws = x.ring.weights.now in
    let room : length ws ≤ length c.loop-i.own = omega (arith, c.loop-i.invariant.0, x.ring.ordered.few) in
    let long : length (take (length ws) c.loop-i.own) ≡ length ws = length-take-le (length ws) c.loop-i.own room in
    same_lists _ _ (long ∙ sym (length-of_kind c.args.kind x.kinds.now ws x.paired))
    (λ k d l.
    let h : k < length ws = omega (arith, long) in
    get_or-take (length ws) c.loop-i.own k d h
    ∙ (get_or_default c.loop-i.own k d 0 (omega (arith, room))
    ∙ (c.loop-i.invariant.1 k (omega (arith, c.loop-i-test.false)) ∙ sym (of_kind_at c.args.kind x.kinds.now ws k d x.paired h))))
