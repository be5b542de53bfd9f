-- The first weight that will do is that of the best of all mixed choices.
use Rattle.std.proofs.Common.{◌≡◌, ℕ, zero, suc, ◌+◌, ◌-◌, ◌*◌, ◌^◌, ◌<◌, ◌≤◌, min, Bool, true, false, ◌&&◌, ltb, ◌⊎◌, List, length, get_or, inl, inr, sym, refl, ap, ◌∙◌, None, arith, pow_mono}
use Rattle.std.proofs.lemmas.Bool.{and_parts, and_from, cases_lt, lt-ltb}
use Rattle.std.proofs.lemmas.Bool.Decides.{nat_tests}
use Rattle.std.proofs.lemmas.Nat.{pow_pos}
use Rattle.choices.specs.Choice.{Choice, weight_of, opened, none_empty, keeps_old, fits}
use Rattle.choices.specs.declared.rule.Rule.{Rule}
use Rattle.choices.proofs.Choices.{fitting, fits_from, opened_le}
use Rattle.order.specs.Order.{better, BestBag, NoneOf}
use Rattle.order.specs.declared.bag.Bag.{Bag}
use Rattle.halves_places.specs.Place.{place}
use Rattle.halves_places.specs.Ring.{Says}
use Rattle.halves_places.proofs.Places.{shut, shut_below, place_is, better_place}
use Rattle.halves_places.proofs.Rings.{by_ring}
use Rattle.kinds.specs.Kinds.{weight_of_kind, in_windows, mixes}
use Rattle.kinds.specs.declared.mixed.Window.{Window}
use Rattle.kinds_table.specs.Costs.{never, Lot, on_kinds, lawful, gains, is, below, cost, Makes, Least}
use Rattle.kinds_table.specs.Rows.{sum_below, Mixing, Joined, First, FirstAt}
use Rattle.kinds_table.specs.Plans.{Plans, lot_of}
use Rattle.kinds_table.specs.declared.plan.Plan.{Plan}
use Rattle.kinds_table.specs.declared.search.Reached.{Reached}
use Rattle.kinds_table.proofs.OnKinds.{on_all, lawful_all, on_is, place_costs}
use Rattle.kinds_table.proofs.Joining.{splits, chosen}
use Rattle.kinds_table.proofs.Clipping.{in_windows_from, kinds_weigh}

length_gains : (n : ℕ) → length (gains n) ≡ n
length_gains zero = refl
length_gains (suc n) = ap suc (length_gains n)

-- a choice opens few enough pans just where its cost is below the limit
module _ (ws : List ℕ) (cs : Choice) (few : length ws ≤ 24) (whole : length cs ≡ length ws) where
  place_of : place 0 ws cs + 1 ≡ weight_of ws cs * 2 ^ 29 + weight_of (gains (length ws)) cs + 2 ^ length ws
  place_of = place_costs ws cs few whole

  costs : weight_of (gains (length ws)) cs + 2 ^ length ws ≡ opened cs * 2 ^ 24 + shut 0 cs + 1
  costs = omega (arith, place_of, place_is 0 ws cs whole)

  low : shut 0 cs < 2 ^ 24
  low =
      let p : 2 ^ (0 + length cs) ≤ 2 ^ 24 = pow_mono {j = 24} (omega arith) in
      omega (arith, shut_below 0 cs)

  pub cost_low : (pans limit : ℕ) → limit + 2 ^ length ws ≡ (min pans 24 + 1) * 2 ^ 24 + 1 → opened cs ≤ pans → weight_of (gains (length ws)) cs < limit
  cost_low pans limit e h = omega (arith, costs, low, opened_le cs)

  pub count_low : (pans limit : ℕ) → limit + 2 ^ length ws ≡ (min pans 24 + 1) * 2 ^ 24 + 1 → weight_of (gains (length ws)) cs < limit → opened cs ≤ pans
  count_low pans limit e h = omega (arith, costs, low)

  pub place_low : weight_of (gains (length ws)) cs + 2 ^ length ws ≤ 2 ^ 29
  place_low = omega (arith, costs, low, opened_le cs)

module _ (r : Rule) (vs : List Window) (ks ws as' : List ℕ) (p : Plan) (plans : Plans r vs ks ws as' p) (paired : length ks ≡ length ws) (aged : length as' ≡ length ws)
    (known : (i : ℕ) → get_or ks i 0 < length vs) (few : length ws ≤ 24) (last : ℕ) (is-last : p.kinds ≡ suc last) where
  abbrev pans : Lot
  pans = lot_of r ks ws as'

  abbrev base : ℕ
  base = sum_below (λ (j : ℕ). get_or p.least j 0) (suc last)

  base_is : p.base ≡ base
  base_is = base_at (suc last) is-last
    where
      base_at : (n : ℕ) → p.kinds ≡ n → p.base ≡ sum_below (λ (j : ℕ). get_or p.least j 0) n
      base_at n e = rw (sym e) plans.laid.base

  all : (i : ℕ) → ltb (get_or ks i 0) (suc last) ≡ true
  all i = lt-ltb (get_or ks i 0) (suc last) (omega (arith, known i, plans.kinds))

  weighs : (cs : Choice) → on_kinds (below (suc last)) ks ws cs ≡ weight_of ws cs
  weighs cs = on_all (below (suc last)) ks ws cs paired (λ i _. all i)

  costs_all : (cs : Choice) → cost (below (suc last)) pans cs ≡ weight_of (gains (length ws)) cs
  costs_all cs = on_all (below (suc last)) ks (gains (length ws)) cs (paired ∙ sym (length_gains (length ws))) (λ i _. all i)

  law : (cs : Choice) → length cs ≡ length ws → lawful (below (suc last)) r.age ks ws as' cs ≡ (none_empty ws cs && keeps_old r.age as' cs)
  law cs e = lawful_all (below (suc last)) r.age ks ws as' cs paired aged e (λ i _. all i) ∙ by_ring r.age ws as' cs aged e

  -- a mixed choice as the rows see it
  record Seen (cs : Choice) : Type 0 where
    over : ℕ
    enough : r.target ≤ base + over
    within : base + over ≤ r.target + r.above
    weight : weight_of ws cs ≡ base + over
    count : opened cs ≤ r.pans
    whole : length cs ≡ length ws
    mixing : Mixing (suc last) pans p.least p.most (base + over) cs

  least_le : (cs : Choice) (k : ℕ) → ((j : ℕ) → j < k → get_or p.least j 0 ≤ weight_of_kind j ks ws cs) → sum_below (λ (j : ℕ). get_or p.least j 0) k ≤ sum_below (λ (j : ℕ). weight_of_kind j ks ws cs) k
  least_le cs zero h = omega arith
  least_le cs (suc k) h = omega (arith, least_le cs k (λ j l. h j (omega arith)), h k (omega arith))

  seen : (cs : Choice) → mixes r vs ks ws as' cs ≡ true → Seen cs
  seen cs h =
      let f = fitting r ws as' cs (and_parts (fits r ws as' cs) (in_windows 0 vs ks ws cs) h).0 in
      let b = least_le cs (suc last) (λ j l. plans.enough cs h j (omega (arith, is-last))) in
      let s = kinds_weigh (suc last) ks ws cs in
      record {
        over = weight_of ws cs - base;
        enough = omega (arith, f.enough, b, s, weighs cs);
        within = omega (arith, f.within, b, s, weighs cs);
        weight = omega (arith, b, s, weighs cs);
        count = f.few;
        whole = f.whole;
        mixing = record {
          makes = record { whole = f.whole; does = law cs f.whole ∙ and_from (none_empty ws cs) (keeps_old r.age as' cs) f.filled f.old_opened; weighs = omega (arith, b, s, weighs cs) };
          enough = λ j l. omega (arith, plans.enough cs h j (omega (arith, is-last)), on_is j ks ws cs);
          within = λ j l. omega (arith, plans.within cs h j (omega (arith, is-last)), on_is j ks ws cs);
        };
      }

  mixes_of : (x : ℕ) (cs : Choice) → r.target ≤ base + x → base + x ≤ r.target + r.above → opened cs ≤ r.pans → Mixing (suc last) pans p.least p.most (base + x) cs → mixes r vs ks ws as' cs ≡ true
  mixes_of x cs enough within count m =
      let w : weight_of ws cs ≡ base + x = sym (weighs cs) ∙ m.makes.weighs in
      let d = and_parts (none_empty ws cs) (keeps_old r.age as' cs) (sym (law cs m.makes.whole) ∙ m.makes.does) in
      and_from (fits r ws as' cs) (in_windows 0 vs ks ws cs)
      (fits_from r ws as' cs (record { whole = m.makes.whole; enough = omega (arith, w); within = omega (arith, w); few = count; filled = d.0; old_opened = d.1 }))
      (in_windows_from 0 vs ks ws cs
      (λ i l. let e : 0 + i ≡ i = omega arith in rw e (
        omega (arith, on_is i ks ws cs, m.enough i (omega (arith, plans.kinds)), plans.no_less i (omega (arith, plans.kinds))),
        omega (arith, on_is i ks ws cs, m.within i (omega (arith, plans.kinds)), plans.no_more i (omega (arith, plans.kinds))),
      )))

  module _ (one other : ℕ → ℕ) (limit : ℕ) (limit-is : limit + 2 ^ length ws ≡ (min r.pans 24 + 1) * 2 ^ 24 + 1)
      (kinds : (v : ℕ) → get_or p.least last 0 + v ≤ get_or p.most last 0 → Least (Makes (is last) pans (get_or p.least last 0 + v)) (cost (is last) pans) (one v))
      (past : (v : ℕ) → get_or p.most last 0 < get_or p.least last 0 + v → never ≤ one v) (h : Joined last pans p.least p.most p.span other) where
    -- the least sum at a mixed choice's weight is below the limit, and no more than the choice costs
    at_weight : (cs : Choice) (s : Seen cs) → (v : ℕ) × (v ≤ s.over) × (one v + other (s.over - v) ≤ weight_of (gains (length ws)) cs)
    at_weight cs s =
        let t = splits pans p.least p.most last p.span one other kinds past h s.over (omega (arith, s.within, base_is, plans.span)) cs s.mixing in
        (t.0, t.1, omega (arith, t.2, costs_all cs))

    pub found_none : First one other (r.target - p.base) p.span limit None → NoneOf (mixes r vs ks ws as')
    found_none f cs = none (mixes r vs ks ws as' cs) refl
      where
        none : (b : Bool) → mixes r vs ks ws as' cs ≡ b → b ≡ false
        none false e = refl
        none true e =
            let s = seen cs e in
            let t = at_weight cs s in
            absurd (omega (arith, t.2, f s.over t.0 (omega (arith, s.enough, base_is)) (omega (arith, s.within, base_is, plans.span)) t.1, cost_low ws cs few s.whole r.pans limit limit-is s.count))

    module _ (o : Reached) (f : FirstAt one other (r.target - p.base) p.span limit o) (b : Bag) (says : Says ws ((p.base + o.over) * 2 ^ 29 + (o.cost + (2 ^ length ws - 1))) b) where
      best_bag : (es : Choice) × Mixing (suc last) pans p.least p.most (base + o.over) es × (cost (below (suc last)) pans es ≡ o.cost) → BestBag (mixes r vs ks ws as') ws b
      best_bag (es, m, e) =
          record { choice = es; best = record { allowed = allowed; unbeaten = unbeaten }; number = (says es m.makes.whole place-is).0; weighs = (says es m.makes.whole place-is).1 }
        where
          own : weight_of (gains (length ws)) es ≡ o.cost
          own = sym (costs_all es) ∙ e

          weight : weight_of ws es ≡ base + o.over
          weight = sym (weighs es) ∙ m.makes.weighs

          place-is : place 0 ws es ≡ (p.base + o.over) * 2 ^ 29 + (o.cost + (2 ^ length ws - 1))
          place-is = omega (arith, place_of ws es few m.makes.whole, own, weight, base_is, pow_pos (length ws))

          allowed : mixes r vs ks ws as' es ≡ true
          allowed =
              mixes_of o.over es (omega (arith, f.enough, base_is)) (omega (arith, f.within, base_is, plans.span))
              (count_low ws es few m.makes.whole r.pans limit limit-is (omega (arith, own, f.few))) m

          no-worse : (ds : Choice) → Seen ds → place 0 ws es ≤ place 0 ws ds
          no-worse ds s =
              let t = at_weight ds s in
              let d = place_of ws ds few s.whole in
              let c = cost_low ws ds few s.whole r.pans limit limit-is s.count in
              let g = place_low ws es few m.makes.whole in
              by-weight d c g t (cases_lt s.over o.over) (cases_lt o.over s.over)
            where
              by-weight : place 0 ws ds + 1 ≡ weight_of ws ds * 2 ^ 29 + weight_of (gains (length ws)) ds + 2 ^ length ws → weight_of (gains (length ws)) ds < limit → weight_of (gains (length ws)) es + 2 ^ length ws ≤ 2 ^ 29 →
                  (v : ℕ) × (v ≤ s.over) × (one v + other (s.over - v) ≤ weight_of (gains (length ws)) ds) → (s.over < o.over) ⊎ (o.over ≤ s.over) → (o.over < s.over) ⊎ (s.over ≤ o.over) → place 0 ws es ≤ place 0 ws ds
              by-weight d c g t (inl lighter) k = absurd (omega (arith, f.lighter s.over t.0 (omega (arith, s.enough, base_is)) lighter t.1, t.2))
              by-weight d c g t (inr l) (inl heavier) = omega (arith, d, place-is, own, s.weight, base_is, g)
              by-weight d c g t (inr l) (inr k) =
                  let e : s.over ≡ o.over = omega arith in
                  let q : o.cost ≤ one t.0 + other (o.over - t.0) = f.costs.low t.0 (omega (arith, t.1)) in
                  let q' : o.cost ≤ one t.0 + other (s.over - t.0) = rw e q in
                  omega (arith, d, place-is, s.weight, base_is, t.2, q', pow_pos (length ws))

          unbeaten : (ds : Choice) → mixes r vs ks ws as' ds ≡ true → better ws ds es ≡ false
          unbeaten ds a =
              let s = seen ds a in
              better_place ws ds es few s.whole m.makes.whole ∙ not-below (no-worse ds s)
            where
              not-below : place 0 ws es ≤ place 0 ws ds → ltb (place 0 ws ds) (place 0 ws es) ≡ false
              not-below l = grind (arith, nat_tests)

      pub found_some : BestBag (mixes r vs ks ws as') ws b
      found_some =
          best_bag (chosen pans p.least p.most last p.span one other kinds past h o.over o.cost f.within f.costs (omega (arith, f.few, limit-is)))
