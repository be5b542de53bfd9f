-- The kinds joined so far, and one kind more.
use Rattle.std.proofs.Common.{◌≡◌, ℕ, zero, suc, ◌+◌, ◌-◌, ◌<◌, ◌≤◌, true, false, eqb, ltb, ◌⊎◌, List, [], ◌∷◌, length, get_or, inl, inr, sym, refl, ap, ◌∙◌, arith}
use Rattle.std.proofs.lemmas.Bool.{and_parts, and_from, cases_lt, ne_eqb, ltb-true, eqb-true}
use Rattle.choices.specs.Choice.{Choice}
use Rattle.kinds_table.specs.Costs.{never, Lot, on_kinds, lawful, gains, is, below, cost, Makes, Least}
use Rattle.kinds_table.specs.Rows.{sum_below, Mixing, Joined, Sum}
use Rattle.kinds_table.proofs.OnKinds.{on_next, lawful_next, on_none, lawful_none, alike_sum, alike_lawful, merge, length_merge, merge_takes, merge_keeps}

-- before any kind: what weighs nothing costs nothing
abbrev all_shut : ℕ → Choice
all_shut zero = []
all_shut (suc n) = false ∷ all_shut n

length_all_shut : (n : ℕ) → length (all_shut n) ≡ n
length_all_shut zero = refl
length_all_shut (suc n) = ap suc (length_all_shut n)

module _ (l : Lot) (least most : List ℕ) where
  pub joined_nothing : (span : ℕ) (row : ℕ → ℕ) → row 0 ≡ 0 → ((u : ℕ) → 1 ≤ u → u ≤ span → row u ≡ never) → Joined 0 l least most span row
  joined_nothing span row zeros rest zero low =
      rw zeros (record {
        cap = omega arith;
        low = λ cs h. omega arith;
        some = λ k. (
          all_shut (length l.weights),
          record {
            makes = record {
              whole = length_all_shut (length l.weights);
              does = lawful_none l.old l.kinds l.weights l.ages (all_shut (length l.weights));
              weighs = on_none l.kinds l.weights (all_shut (length l.weights));
            };
            enough = λ j h. absurd (omega arith);
            within = λ j h. absurd (omega arith);
          },
          on_none l.kinds (gains (length l.weights)) (all_shut (length l.weights)),
        );
      })
  joined_nothing span row zeros rest (suc u) low =
      rw (rest (suc u) (omega arith) low)
      (record {
        cap = omega arith;
        low = λ cs h. absurd (omega (arith, h.makes.weighs, on_none l.kinds l.weights cs));
        some = λ k. absurd (omega arith);
      })

  -- what the kinds weigh at least
  least_weight : (k : ℕ) (cs : Choice) → ((j : ℕ) → j < k → get_or least j 0 ≤ on_kinds (is j) l.kinds l.weights cs) → sum_below (λ (j : ℕ). get_or least j 0) k ≤ on_kinds (below k) l.kinds l.weights cs
  least_weight zero cs h = omega arith
  least_weight (suc k) cs h = omega (arith, least_weight k cs (λ j b. h j (omega arith)), h k (omega arith), on_next k l.kinds l.weights cs)

  -- one kind more: its row, from the least weight of the kind to the most
  module _ (k span : ℕ) (one other : ℕ → ℕ)
      (kinds : (v : ℕ) → get_or least k 0 + v ≤ get_or most k 0 → Least (Makes (is k) l (get_or least k 0 + v)) (cost (is k) l) (one v))
      (past : (v : ℕ) → get_or most k 0 < get_or least k 0 + v → never ≤ one v)
      (h : Joined k l least most span other) where
    -- a choice costs no less than some cost of this kind and some of the kinds before
    pub splits : (x : ℕ) → x ≤ span → (cs : Choice) → Mixing (suc k) l least most (sum_below (λ (j : ℕ). get_or least j 0) (suc k) + x) cs → (v : ℕ) × (v ≤ x) × (one v + other (x - v) ≤ cost (below (suc k)) l cs)
    splits x in' cs m =
        let b = on_next k l.kinds l.weights cs in
        let e = least_weight k cs (λ j d. m.enough j (omega arith)) in
        let own = on_kinds (is k) l.kinds l.weights cs in
        let v : ℕ = own - get_or least k 0 in
        let f : own ≤ get_or most k 0 = m.within k (omega arith) in
        let g : get_or least k 0 ≤ own = m.enough k (omega arith) in
        let w : on_kinds (below (suc k)) l.kinds l.weights cs ≡ sum_below (λ (j : ℕ). get_or least j 0) k + get_or least k 0 + x = m.makes.weighs in
        let law = and_parts (lawful (below k) l.old l.kinds l.weights l.ages cs) (lawful (is k) l.old l.kinds l.weights l.ages cs) (sym (lawful_next k l.old l.kinds l.weights l.ages cs) ∙ m.makes.does) in
        let one-is = (kinds v (omega arith)).low cs (record { whole = m.makes.whole; does = law.1; weighs = omega arith }) in
        let other-is = (h (x - v) (omega arith)).low cs
        (record {
          makes = record { whole = m.makes.whole; does = law.0; weighs = omega arith };
          enough = λ j d. m.enough j (omega arith);
          within = λ j d. m.within j (omega arith);
        }) in
        (v, omega arith, omega (arith, one-is, other-is, on_next k l.kinds (gains (length l.weights)) cs))

    -- a choice of the kinds before, and one of this kind, put together
    module _ (u v : ℕ) (cs ds : Choice) (c : Mixing k l least most (sum_below (λ (j : ℕ). get_or least j 0) k + u) cs) (d : Makes (is k) l (get_or least k 0 + v) ds) (in' : get_or least k 0 + v ≤ get_or most k 0) where
      es : Choice
      es = merge k l.kinds cs ds

      same : length cs ≡ length ds
      same = c.makes.whole ∙ sym d.whole

      before : (q : ℕ) → ltb q k ≡ true → eqb q k ≡ false
      before q b = ne_eqb q k (λ e. let f = ltb-true q k b in absurd (omega arith))

      earlier : (j : ℕ) → j < k → (q : ℕ) → eqb q j ≡ true → eqb q k ≡ false
      earlier j b q f = ne_eqb q k (λ e. let g = eqb-true q j f in absurd (omega arith))

      keeps : (xs : List ℕ) → on_kinds (below k) l.kinds xs es ≡ on_kinds (below k) l.kinds xs cs
      unfolding es
      keeps xs = alike_sum (below k) l.kinds xs (merge k l.kinds cs ds) cs (length_merge k l.kinds cs ds) (merge_keeps (below k) k l.kinds cs ds same before)

      takes : (xs : List ℕ) → on_kinds (is k) l.kinds xs es ≡ on_kinds (is k) l.kinds xs ds
      unfolding es
      takes xs = alike_sum (is k) l.kinds xs (merge k l.kinds cs ds) ds (length_merge k l.kinds cs ds ∙ same) (merge_takes (is k) k l.kinds cs ds same (λ q b. b))

      each : (j : ℕ) → j < k → on_kinds (is j) l.kinds l.weights es ≡ on_kinds (is j) l.kinds l.weights cs
      unfolding es
      each j b = alike_sum (is j) l.kinds l.weights (merge k l.kinds cs ds) cs (length_merge k l.kinds cs ds) (merge_keeps (is j) k l.kinds cs ds same (earlier j b))

      law : lawful (below (suc k)) l.old l.kinds l.weights l.ages es ≡ true
      unfolding es
      law =
          lawful_next k l.old l.kinds l.weights l.ages (merge k l.kinds cs ds)
          ∙ and_from (lawful (below k) l.old l.kinds l.weights l.ages (merge k l.kinds cs ds)) (lawful (is k) l.old l.kinds l.weights l.ages (merge k l.kinds cs ds))
          (alike_lawful (below k) l.old l.kinds l.weights l.ages (merge k l.kinds cs ds) cs (length_merge k l.kinds cs ds) (merge_keeps (below k) k l.kinds cs ds same before) ∙ c.makes.does)
          (alike_lawful (is k) l.old l.kinds l.weights l.ages (merge k l.kinds cs ds) ds (length_merge k l.kinds cs ds ∙ same) (merge_takes (is k) k l.kinds cs ds same (λ q b. b)) ∙ d.does)

      whole : length es ≡ length l.weights
      unfolding es
      whole = length_merge k l.kinds cs ds ∙ c.makes.whole

      mixed : Mixing (suc k) l least most (sum_below (λ (j : ℕ). get_or least j 0) k + get_or least k 0 + (u + v)) es
      mixed =
          record {
            makes = record { whole = whole; does = law; weighs = omega (arith, on_next k l.kinds l.weights es, keeps l.weights, takes l.weights, c.makes.weighs, d.weighs) };
            enough = λ j b. enough j b (cases_lt j k);
            within = λ j b. within j b (cases_lt j k);
          }
        where
          enough : (j : ℕ) → j < suc k → (j < k) ⊎ (k ≤ j) → get_or least j 0 ≤ on_kinds (is j) l.kinds l.weights es
          enough j b (inl f) = rw (each j f) (c.enough j f)
          enough j b (inr f) = let e : j ≡ k = omega arith in rw (e, takes l.weights) (omega (arith, d.weighs))

          within : (j : ℕ) → j < suc k → (j < k) ⊎ (k ≤ j) → on_kinds (is j) l.kinds l.weights es ≤ get_or most j 0
          within j b (inl f) = rw (each j f) (c.within j f)
          within j b (inr f) = let e : j ≡ k = omega arith in rw (e, takes l.weights) (omega (arith, d.weighs))

      costs : cost (below (suc k)) l es ≡ cost (below k) l cs + cost (is k) l ds
      costs = omega (arith, on_next k l.kinds (gains (length l.weights)) es, keeps (gains (length l.weights)), takes (gains (length l.weights)))

    -- the least sum is some choice's cost
    pub chosen : (x y : ℕ) → x ≤ span → Sum one other x y → y < never → (cs : Choice) × Mixing (suc k) l least most (sum_below (λ (j : ℕ). get_or least j 0) (suc k) + x) cs × (cost (below (suc k)) l cs ≡ y)
    chosen x y low s l' = at (s.some l')
      where
        at : (v : ℕ) × (v ≤ x) × (one v + other (x - v) ≡ y) → (cs : Choice) × Mixing (suc k) l least most (sum_below (λ (j : ℕ). get_or least j 0) (suc k) + x) cs × (cost (below (suc k)) l cs ≡ y)
        at (v, in', e) = with-kind (cases_lt (get_or most k 0) (get_or least k 0 + v))
          where
            with-kind : (get_or most k 0 < get_or least k 0 + v) ⊎ (get_or least k 0 + v ≤ get_or most k 0) →
                (cs : Choice) × Mixing (suc k) l least most (sum_below (λ (j : ℕ). get_or least j 0) (suc k) + x) cs × (cost (below (suc k)) l cs ≡ y)
            with-kind (inl over) = absurd (omega (arith, past v over))
            with-kind (inr fine) =
                let d = (kinds v fine).some (omega arith) in
                let c = (h (x - v) (omega arith)).some (omega arith) in
                let f : x - v + v ≡ x = omega arith in
                (es (x - v) v c.0 d.0 c.1 d.1 fine, rw f at (mixed (x - v) v c.0 d.0 c.1 d.1 fine), costs (x - v) v c.0 d.0 c.1 d.1 fine ∙ omega (arith, c.2, d.2))

    pub joined_next : (row : ℕ → ℕ) → ((x : ℕ) → x ≤ span → Sum one other x (row x)) → Joined (suc k) l least most span row
    joined_next row sums x in' =
        let s = sums x in' in
        record { cap = s.cap; low = λ cs m. let t = splits x in' cs m in omega (arith, s.low t.0 t.1, t.2); some = chosen x (row x) in' s }
