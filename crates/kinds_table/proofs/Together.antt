-- The rows are joined one after another, each into a row of its own.
use Rattle.std.proofs.Common.{◌≡◌, ℕ, zero, suc, ◌+◌, ◌-◌, ◌*◌, ◌<◌, ◌≤◌, ◌⊎◌, List, [], ◌∷◌, length, get_or, take, drop, inl, inr, refl, ◌∙◌, mul-add, mul-one, arith}
use Rattle.std.proofs.lemmas.Bool.{cases_lt, cases_eq}
use Rattle.std.proofs.lemmas.List.{length-take-le, get_or-take, get_or-drop, get_or_past, length-drop}
use Rattle.kinds_table.specs.Costs.{never, Lot, is, cost, Makes, Least}
use Rattle.kinds_table.specs.Rows.{Capped, Joined, Sum, Tables, cost_in, row_at}
use Rattle.kinds_table.specs.Plans.{Laid}
use Rattle.kinds_table.specs.declared.plan.Plan.{Plan}
use Rattle.kinds_table.proofs.Sums.{cost_at, cost_past}
use Rattle.kinds_table.proofs.Joining.{joined_nothing, joined_next}

-- where nothing is joined yet, the sums are the row's own costs
pub sum_alone : (one other : ℕ → ℕ) (x : ℕ) → one x ≤ never → other 0 ≡ 0 → ((u : ℕ) → 1 ≤ u → u ≤ x → other u ≡ never) → Sum one other x (one x)
sum_alone one other x cap zeros rest =
    record { cap = cap; low = λ v h. low v h (cases_eq v x); some = λ l. (x, omega arith, let e : x - x ≡ 0 = omega arith in rw (e, zeros) (omega arith)) }
  where
    low : (v : ℕ) → v ≤ x → (v ≡ x) ⊎ (v ≡ x → ⊥) → one x ≤ one v + other (x - v)
    low v h (inl e) = rw e (omega arith)
    low v h (inr e) = omega (arith, rest (x - v) (omega arith) (omega arith))

-- a part of the rows
pub part_long : (rows : List ℕ) (s n : ℕ) → s + n ≤ length rows → length (take n (drop s rows)) ≡ n
part_long rows s n h = length-take-le n (drop s rows) (omega (arith, length-drop s rows))

pub part_at : (rows : List ℕ) (s n v : ℕ) → v < n → get_or (take n (drop s rows)) v 0 ≡ get_or rows (s + v) 0
part_at rows s n v l = get_or-take n (drop s rows) v 0 l ∙ get_or-drop s rows v 0

pub part_capped : (rows : List ℕ) (s n : ℕ) → Capped rows → Capped (take n (drop s rows))
part_capped rows s n h v = at (cases_lt v n)
  where
    at : (v < n) ⊎ (n ≤ v) → get_or (take n (drop s rows)) v 0 ≤ never
    at (inl l) = rw (part_at rows s n v l) (h (s + v))
    at (inr l) = rw (get_or_past (take n (drop s rows)) v 0 (omega (arith, short n (drop s rows)))) (omega arith)
      where
        short : (n : ℕ) (xs : List ℕ) → length (take n xs) ≤ n
        short n xs = short-of n xs
          where
            short-of : (n : ℕ) (xs : List ℕ) → length (take n xs) ≤ n
            short-of zero xs = omega arith
            short-of (suc n) [] = omega arith
            short-of (suc n) (x ∷ xs) = omega (arith, short-of n xs)

module _ (p : Plan) (laid : Laid p) (rows : List ℕ) where
  -- the window of a kind's row
  module _ (k : ℕ) (known : k < p.kinds) (row : List ℕ) (long : length row ≡ get_or p.most k 0 - get_or p.least k 0 + 1)
      (own : (v : ℕ) → v < length row → get_or row v 0 ≡ get_or rows (p.wide * k + 16 + get_or p.least k 0 + v) 0) where
    pub row_kinds : (o : Lot) → Tables o p.most p.kinds p.wide rows → (v : ℕ) → get_or p.least k 0 + v ≤ get_or p.most k 0 → Least (Makes (is k) o (get_or p.least k 0 + v)) (cost (is k) o) (cost_in row v)
    row_kinds o t v low =
        let e : p.wide * k + 16 + get_or p.least k 0 + v ≡ p.wide * k + 16 + (get_or p.least k 0 + v) = omega arith in
        let l : v < length row = omega (arith, long) in
        rw (cost_at row v l, own v l, e) (t.row k (get_or p.least k 0 + v) known (omega arith))

    pub row_past : (v : ℕ) → get_or p.most k 0 < get_or p.least k 0 + v → never ≤ cost_in row v
    row_past v high = rw (cost_past row v (omega (arith, long, laid.some k))) (omega arith)

  pub record Together (k : ℕ) (sums : List ℕ) : Type 0 where
    pub capped : Capped sums
    pub blank : (j : ℕ) → p.wide * (k + 1) ≤ j → j < length sums → get_or sums j 0 ≡ never
    pub joined : (o : Lot) → Tables o p.most p.kinds p.wide rows → Joined k o p.least p.most p.span (row_at sums (p.wide * k))
    pub none : k ≡ 0 → (get_or sums 0 0 ≡ 0) × ((u : ℕ) → 1 ≤ u → u < p.wide → get_or sums u 0 ≡ never)

  wide_is : p.span + 16 ≤ p.wide
  wide_is = omega (arith, laid.wide)

  joined_as : (o : Lot) (row : ℕ → ℕ) (n m : ℕ) → n ≡ m → Joined m o p.least p.most p.span row → Joined n o p.least p.most p.span row
  joined_as o row n m e h = rw e h

  pub together_none : (sums : List ℕ) → p.wide ≤ length sums → get_or sums 0 0 ≡ 0 → ((j : ℕ) → 1 ≤ j → j < length sums → get_or sums j 0 ≡ never) → Together 0 sums
  together_none sums long zeros rest =
      record {
        capped = capped;
        blank = λ j past low. rest j (omega (arith, wide_is)) low;
        joined = λ o t. joined_nothing o p.least p.most p.span (row_at sums (p.wide * 0)) (let e : p.wide * 0 + 0 ≡ 0 = omega arith in rw e zeros)
            (λ u some low. let e : p.wide * 0 + u ≡ u = omega arith in rw e (rest u some (omega (arith, wide_is))));
        none = λ e. (zeros, λ u some low. rest u some (omega arith));
      }
    where
      capped : (j : ℕ) → get_or sums j 0 ≤ never
      capped zero = omega (arith, zeros)
      capped (suc j) = at (cases_lt (suc j) (length sums))
        where
          at : (suc j < length sums) ⊎ (length sums ≤ suc j) → get_or sums (suc j) 0 ≤ never
          at (inl l) = omega (arith, rest (suc j) (omega arith) l)
          at (inr l) = rw (get_or_past sums (suc j) 0 l) (omega arith)

  pub together_next :
      (k : ℕ) (row sums sums' : List ℕ) → k < p.kinds → length row ≡ get_or p.most k 0 - get_or p.least k 0 + 1 →
      ((v : ℕ) → v < length row → get_or row v 0 ≡ get_or rows (p.wide * k + 16 + get_or p.least k 0 + v) 0) →
      Together k sums → length sums' ≡ length sums → Capped sums' →
      ((j : ℕ) → (j < p.wide * (k + 1)) ⊎ (p.wide * (k + 1) + p.span + 16 ≤ j) → get_or sums' j 0 ≡ get_or sums j 0) →
      ((x : ℕ) → x ≤ p.span → Sum (cost_in row) (row_at sums (p.wide * k)) x (row_at sums' (p.wide * (k + 1)) x)) → Together (k + 1) sums'
  together_next k row sums sums' known long own h same-long capped same made =
      record {
        capped = capped;
        blank = λ j past low. same j (inr (omega (arith, wide_is, mul-add p.wide (k + 1) 1, mul-one p.wide))) ∙ h.blank j (omega (arith, mul-add p.wide (k + 1) 1, mul-one p.wide)) (omega arith);
        joined = joined;
        none = λ e. absurd (omega arith);
      }
    where
      joined : (o : Lot) → Tables o p.most p.kinds p.wide rows → Joined (k + 1) o p.least p.most p.span (row_at sums' (p.wide * (k + 1)))
      joined o t =
          joined_as o (row_at sums' (p.wide * (k + 1))) (k + 1) (suc k) (omega arith) (joined_next o p.least p.most k p.span (cost_in row) (row_at sums (p.wide * k)) (row_kinds k known row long own o t) (row_past k known row long own) (h.joined o t) (row_at sums' (p.wide * (k + 1))) made)

  -- the first row is copied
  pub together_first :
      (k : ℕ) (row sums sums' : List ℕ) → k ≡ 0 → k < p.kinds → length row ≡ get_or p.most k 0 - get_or p.least k 0 + 1 →
      ((v : ℕ) → v < length row → get_or row v 0 ≡ get_or rows (p.wide * k + 16 + get_or p.least k 0 + v) 0) → Capped row →
      Together k sums → length sums' ≡ length sums →
      ((j : ℕ) → (j < p.wide) ⊎ (p.wide + p.span < j) → get_or sums' j 0 ≡ get_or sums j 0) →
      ((x : ℕ) → x ≤ p.span → row_at sums' p.wide x ≡ cost_in row x) → Together (k + 1) sums'
  together_first zero row sums sums' e known long own low h same-long same made =
      let w : p.wide * (0 + 1) ≡ p.wide = omega arith in
      together_next 0 row sums sums' known long own h same-long capped (rw w (λ j l. same j (narrow j l)))
      (rw w (λ x l. rw (made x l) (sum_alone (cost_in row) (row_at sums (p.wide * 0)) x (cap x) (at 0 ∙ (h.none refl).0) (λ u some l'. at u ∙ (h.none refl).1 u some (omega (arith, wide_is))))))
    where
      at : (u : ℕ) → get_or sums (p.wide * 0 + u) 0 ≡ get_or sums u 0
      at u = let f : p.wide * 0 + u ≡ u = omega arith in rw f refl

      narrow : (j : ℕ) → (j < p.wide) ⊎ (p.wide + p.span + 16 ≤ j) → (j < p.wide) ⊎ (p.wide + p.span < j)
      narrow j (inl l) = inl l
      narrow j (inr l) = inr (omega arith)

      cap : (x : ℕ) → cost_in row x ≤ never
      cap x = past (cases_lt x (length row))
        where
          past : (x < length row) ⊎ (length row ≤ x) → cost_in row x ≤ never
          past (inl l) = rw (cost_at row x l) (low x)
          past (inr l) = rw (cost_past row x l) (omega arith)

      capped : (j : ℕ) → get_or sums' j 0 ≤ never
      capped j = in-row (cases_lt j p.wide) (cases_lt (p.wide + p.span) j)
        where
          in-row : (j < p.wide) ⊎ (p.wide ≤ j) → (p.wide + p.span < j) ⊎ (j ≤ p.wide + p.span) → get_or sums' j 0 ≤ never
          in-row (inl l) m = rw (same j (inl l)) (h.capped j)
          in-row (inr l) (inl m) = rw (same j (inr m)) (h.capped j)
          in-row (inr l) (inr m) =
              let f : p.wide + (j - p.wide) ≡ j = omega arith in
              let g = rw f at (made (j - p.wide) (omega arith)) in
              omega (arith, g, cap (j - p.wide))
  together_first (suc k) row sums sums' e known long own low h same-long same made = absurd (omega arith)
