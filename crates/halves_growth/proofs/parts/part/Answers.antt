-- What is left of the proof that the entries are the part's.
use Rattle.std.proofs.Common.{length, refl, ◌∙◌, arith}
use Rattle.std.proofs.lemmas.List.{length-set, get_or-set_same}
use Rattle.std.proofs.lemmas.Nat.{pow_pos}
use Rattle.halves_growth.proofs.ByPan.{from_last, from_step, from_room, from_sorted, from_first}
use Rattle.halves_growth.proofs.parts.part.Goals as goal

pub loop-k-init : goal.loop-k-init
loop-k-init c =
    let p = c.args.pans in
    let b = c.args.behind in
    let n = length p.weights.now in
    from_last b c.args.to p c.requires.few n _ refl
    (get_or-set_same c.args.es.now 0 _ 0 (omega (arith, c.requires.room, pow_pos n)) ∙ c.all_shut.ensures)

pub grow-n-requires : goal.grow-n-requires
grow-n-requires c =
    let p = c.args.pans in
    let h = c.loop-k.invariant in
    record {
      room = omega (arith, c.requires.room, simp length-set at c.loop-k.auto.es, from_room c.args.behind c.args.to p c.requires.few c.loop-k.k _ _ c.loop-k-test.true (omega arith) h);
      sorted = from_sorted c.args.behind c.args.to p c.requires.few c.loop-k.k _ _ h;
    }

pub loop-k-preserved : goal.loop-k-preserved
loop-k-preserved c =
    let p = c.args.pans in
    from_step c.args.behind c.args.to p c.requires.few c.loop-k.k c.loop-k-test.true (omega arith)
    _ _ _ _ _ _ c.of-pan.ensures.way c.of-pan.ensures.gain c.loop-k.invariant c.grow-n.ensures.grown

pub returns : goal.returns
returns c =
    let p = c.args.pans in
    from_first c.args.behind c.args.to p c.requires.few c.loop-k.k _ _ c.loop-k-test.false c.loop-k.invariant
