-- The bag is read off the last kind's row and the others' joined row, as parts of what is lent.
use Rattle.std.proofs.Common.{◌≡◌, ℕ, ◌+◌, ◌-◌, ◌*◌, ◌^◌, ◌<◌, ◌≤◌, min, List, length, get_or, take, drop, ap, ◌∙◌, None, arith}
use Rattle.choices.specs.declared.rule.Rule.{Rule}
use Rattle.order.specs.Order.{BestBag, NoneOf}
use Rattle.order.specs.declared.bag.Bag.{Bag}
use Rattle.halves_places.specs.Ring.{Says}
use Rattle.kinds.specs.Kinds.{mixes}
use Rattle.kinds.specs.declared.mixed.Window.{Window}
use Rattle.kinds_table.specs.Rows.{Joined, Tables, First, FirstAt, cost_in, row_at}
use Rattle.kinds_table.specs.Plans.{Plans, lot_of}
use Rattle.kinds_table.specs.declared.plan.Plan.{Plan}
use Rattle.kinds_table.specs.declared.search.Reached.{Reached}
use Rattle.kinds_table.proofs.Filling.{area_end}
use Rattle.kinds_table.proofs.Together.{part_long, part_at, row_kinds, row_past}
use Rattle.kinds_table.proofs.Finding.{found_none, found_some}

module _ (r : Rule) (vs : List Window) (ks ws as' : List ℕ) (p : Plan) (plans : Plans r vs ks ws as' p) (paired : length ks ≡ length ws) (aged : length as' ≡ length ws)
    (known : (i : ℕ) → get_or ks i 0 < length vs) (few : length ws ≤ 24) (rows sums : List ℕ) (room : p.wide * p.kinds ≤ length rows)
    (tables : Tables (lot_of r ks ws as') p.most p.kinds p.wide rows) (joined : Joined (p.kinds - 1) (lot_of r ks ws as') p.least p.most p.span (row_at sums (p.wide * (p.kinds - 1))))
    (s n m limit from : ℕ) (start : s ≡ p.wide * (p.kinds - 1) + 16 + get_or p.least (p.kinds - 1) 0) (long : n ≡ get_or p.most (p.kinds - 1) 0 - get_or p.least (p.kinds - 1) 0 + 1)
    (wide : p.span < m) (limit-is : limit + 2 ^ length ws ≡ (min r.pans 24 + 1) * 2 ^ 24 + 1) (from-is : from ≡ r.target - p.base) where
  last : p.kinds - 1 < p.kinds
  last = omega (arith, plans.laid.present)

  row_long : length (take n (drop s rows)) ≡ get_or p.most (p.kinds - 1) 0 - get_or p.least (p.kinds - 1) 0 + 1
  row_long =
      part_long rows s n (omega (arith, start, long, plans.laid.wide, plans.laid.top (p.kinds - 1), plans.laid.some (p.kinds - 1), area_end p.wide (p.kinds - 1) p.kinds last)) ∙ long

  row_own : (v : ℕ) → v < length (take n (drop s rows)) → get_or (take n (drop s rows)) v 0 ≡ get_or rows (p.wide * (p.kinds - 1) + 16 + get_or p.least (p.kinds - 1) 0 + v) 0
  row_own v l = part_at rows s n v (omega (arith, row_long, long)) ∙ ap (λ (i : ℕ). get_or rows (i + v) 0) start

  others : Joined (p.kinds - 1) (lot_of r ks ws as') p.least p.most p.span (λ (u : ℕ). get_or (take m (drop (p.wide * (p.kinds - 1)) sums)) u 0)
  others u low = rw (part_at sums (p.wide * (p.kinds - 1)) m u (omega arith)) (joined u low)

  pub read_none : First (cost_in (take n (drop s rows))) (λ (u : ℕ). get_or (take m (drop (p.wide * (p.kinds - 1)) sums)) u 0) from p.span limit None → NoneOf (mixes r vs ks ws as')
  read_none f =
      found_none r vs ks ws as' p plans paired aged known few (p.kinds - 1) (omega (arith, plans.laid.present)) (cost_in (take n (drop s rows))) (λ (u : ℕ). get_or (take m (drop (p.wide * (p.kinds - 1)) sums)) u 0) limit limit-is
      (row_kinds p plans.laid rows (p.kinds - 1) last (take n (drop s rows)) row_long row_own (lot_of r ks ws as') tables)
      (row_past p plans.laid rows (p.kinds - 1) last (take n (drop s rows)) row_long row_own) others (rw from-is at f)

  pub read_some :
      (o : Reached) (b : Bag) → FirstAt (cost_in (take n (drop s rows))) (λ (u : ℕ). get_or (take m (drop (p.wide * (p.kinds - 1)) sums)) u 0) from p.span limit o →
      Says ws ((p.base + o.over) * 2 ^ 29 + (o.cost + (2 ^ length ws - 1))) b → BestBag (mixes r vs ks ws as') ws b
  read_some o b f says =
      found_some r vs ks ws as' p plans paired aged known few (p.kinds - 1) (omega (arith, plans.laid.present)) (cost_in (take n (drop s rows))) (λ (u : ℕ). get_or (take m (drop (p.wide * (p.kinds - 1)) sums)) u 0) limit limit-is
      (row_kinds p plans.laid rows (p.kinds - 1) last (take n (drop s rows)) row_long row_own (lot_of r ks ws as') tables)
      (row_past p plans.laid rows (p.kinds - 1) last (take n (drop s rows)) row_long row_own) others o (rw from-is at f) b says
