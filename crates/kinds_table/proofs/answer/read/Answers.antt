-- What is left of the proof that the best bag is read off.
use Rattle.std.proofs.Common.{◌-◌, ◌^◌, ◌≤◌, length, pow_mono, arith}
use Rattle.std.proofs.lemmas.Nat.{one_shl, pow_pos}
use Rattle.kinds_table.proofs.Filling.{area_end}
use Rattle.kinds_table.proofs.Together.{part_capped}
use Rattle.kinds_table.proofs.Reading.{read_none, read_some}
use Rattle.kinds_table.proofs.answer.read.Goals as goal

pub overflow_sub-limit : goal.overflow_sub-limit
overflow_sub-limit c =
    let n = length c.args.mixed.ring.weights.now in
    let q : 2 ^ n ≤ 2 ^ 24 = pow_mono {j = 24} c.args.mixed.ring.ordered.few in
    omega (arith, q, one_shl n 32 (omega (arith, c.args.mixed.ring.ordered.few)), c.min.ensures)

pub lightest-requires-clause-capped : goal.lightest-requires-clause-capped
lightest-requires-clause-capped c = (part_capped c.args.rows.now _ _ c.requires.tables.capped, part_capped c.args.sums.now _ _ c.requires.capped)

pub returns-in_err-found : goal.returns-in_err-found
returns-in_err-found c =
    let m = c.args.mixed in
    let p = c.args.plan in
    let h = c.requires.plans in
    let n = length m.ring.weights.now in
    let q : 2 ^ n ≤ 2 ^ 24 = pow_mono {j = 24} m.ring.ordered.few in
    rw c.from_residual.ensures
    (read_none m.ring.rule m.windows.now m.kinds.now m.ring.weights.now m.ring.ages.now p h m.paired m.ring.ordered.paired m.known m.ring.ordered.few c.args.rows.now c.args.sums.now c.requires.room.0
    c.requires.tables c.requires.joined _ _ _ _ _ (omega (arith, c.row.ensures)) (omega (arith, c.row.ensures, c.row-2.ensures, h.laid.some (p.kinds - 1)))
    (omega (arith, h.laid.wide, area_end p.wide (p.kinds - 1) p.kinds (omega (arith, h.laid.present))))
    (omega (arith, q, one_shl n 32 (omega (arith, m.ring.ordered.few)), c.min.ensures, pow_pos n)) c.saturating_sub-from.ensures c.in_err-found.ensures)

pub returns : goal.returns
returns c =
    let m = c.args.mixed in
    let p = c.args.plan in
    let h = c.requires.plans in
    let n = length m.ring.weights.now in
    let q : 2 ^ n ≤ 2 ^ 24 = pow_mono {j = 24} m.ring.ordered.few in
    read_some m.ring.rule m.windows.now m.kinds.now m.ring.weights.now m.ring.ages.now p h m.paired m.ring.ordered.paired m.known m.ring.ordered.few c.args.rows.now c.args.sums.now c.requires.room.0
    c.requires.tables c.requires.joined _ _ _ _ _ (omega (arith, c.row.ensures)) (omega (arith, c.row.ensures, c.row-2.ensures, h.laid.some (p.kinds - 1)))
    (omega (arith, h.laid.wide, area_end p.wide (p.kinds - 1) p.kinds (omega (arith, h.laid.present))))
    (omega (arith, q, one_shl n 32 (omega (arith, m.ring.ordered.few)), c.min.ensures, pow_pos n)) c.saturating_sub-from.ensures c.in_ok-found.found c.bag_in.result c.in_ok-found.ensures
    (λ cs e at. c.bag_in.ensures cs e (omega (arith, at, q, one_shl n 32 (omega (arith, m.ring.ordered.few)), pow_pos n, c.from.ensures)))
