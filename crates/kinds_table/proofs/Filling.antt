-- The rows of all kinds stand side by side; a pan changes that of its own kind alone.
use Rattle.std.proofs.Common.{◌≡◌, ℕ, zero, suc, ◌+◌, ◌-◌, ◌*◌, ◌/◌, ◌^◌, ◌<◌, ◌≤◌, ◌≢◌, min, Bool, true, false, eqb, ltb, ◌⊎◌, List, ◌∷◌, length, get_or, drop, inl, inr, sym, refl, ap, ◌∙◌, mul-le-mul_left, mul-one, mul-add, arith}
use Rattle.std.proofs.lemmas.Bool.{cases_lt, cases_eq, eq-eqb, ne_eqb}
use Rattle.std.proofs.lemmas.List.{drop_more}
use Rattle.kinds_table.specs.Costs.{never, Lot, from, is, cost, Makes, Least}
use Rattle.kinds_table.specs.Rows.{row_at, back, Capped, Tables}
use Rattle.kinds_table.proofs.Taking.{lot, least_zero, least_never, other, taken_young, taken_old}

-- ---- the rows' places
pub area_end : (wide k n : ℕ) → k < n → wide * k + wide ≤ wide * n
area_end wide k n l = omega (arith, mul-le-mul_left {m = k + 1} {n = n} wide (omega arith), mul-add wide k 1, mul-one wide)

pub areas_apart : (wide k j a b : ℕ) → a < wide → b < wide → k ≢ j → (wide * k + a < wide * j) ⊎ (wide * j + wide ≤ wide * k + a)
areas_apart wide k j a b l m ne = at (cases_lt k j)
  where
    at : (k < j) ⊎ (j ≤ k) → (wide * k + a < wide * j) ⊎ (wide * j + wide ≤ wide * k + a)
    at (inl h) = inl (omega (arith, area_end wide k j h))
    at (inr h) = inr (omega (arith, area_end wide j k (omega arith)))

pub differ : (wide k j a b : ℕ) → a < wide → b < wide → a ≢ b → wide * k + a ≢ wide * j + b
differ wide k j a b l m ne e = at (cases_eq k j)
  where
    at : (k ≡ j) ⊎ (k ≢ j) → ⊥
    at (inl h) = let f : wide * k ≡ wide * j = ap (λ (n : ℕ). wide * n) h in ne (omega arith)
    at (inr h) = apart (areas_apart wide k j a b l m h)
      where
        apart : (wide * k + a < wide * j) ⊎ (wide * j + wide ≤ wide * k + a) → ⊥
        apart (inl g) = omega arith
        apart (inr g) = omega arith

-- ---- no pan yet
pub tables_none :
    (l : Lot) (most : List ℕ) (kinds wide : ℕ) (room : List ℕ) → length l.weights ≡ 0 → ((k : ℕ) → 16 * (get_or most k 0 / 16 + 1) + 16 ≤ wide) → wide * kinds ≤ length room →
    Capped room → ((k : ℕ) → k < kinds → get_or room (wide * k + 16) 0 ≡ 0) →
    ((j : ℕ) → j < length room → ((k : ℕ) → k < kinds → j ≢ wide * k + 16) → get_or room j 0 ≡ never) → Tables l most kinds wide room
tables_none l most kinds wide room none fits long capped zeros rest =
    record { row = row; blank = λ k j few low. rest (wide * k + j) (omega (arith, area_end wide k kinds few, fits k)) (λ i _. differ wide k i j 16 (omega (arith, fits k)) (omega (arith, fits k)) (omega arith)); capped = capped }
  where
    row : (k x : ℕ) → k < kinds → x < 16 * (get_or most k 0 / 16 + 1) → Least (Makes (is k) l x) (cost (is k) l) (row_at room (wide * k + 16) x)
    row k zero few low =
        let e : wide * k + 16 + 0 ≡ wide * k + 16 = omega arith in
        rw (e, zeros k few) (least_zero (is k) l.old l.kinds l.weights l.ages none)
    row k (suc x) few low =
        let e : wide * k + 16 + suc x ≡ wide * k + (17 + x) = omega arith in
        rw (e, rest (wide * k + (17 + x)) (omega (arith, area_end wide k kinds few, fits k)) (λ i _. differ wide k i (17 + x) 16 (omega (arith, fits k)) (omega (arith, fits k)) (omega arith)))
        (least_never (is k) l.old l.kinds l.weights l.ages (suc x) none (omega arith))

-- ---- one pan more
module _ (l : Lot) (i : ℕ) (few : i < length l.weights) (kinds_paired : length l.kinds ≡ length l.weights) (ages_paired : length l.ages ≡ length l.weights) where
  abbrev kind : ℕ
  kind = get_or l.kinds i 0

  abbrev weight : ℕ
  weight = get_or l.weights i 0

  abbrev age : ℕ
  age = get_or l.ages i 0

  abbrev gain : ℕ
  gain = 2 ^ 24 - 2 ^ length (drop (i + 1) l.weights)

  -- what the row of the pan's kind becomes
  abbrev pub Taken : (young : Bool) (row row' : ℕ → ℕ) (v top : ℕ) → Type 0
  Taken true row row' v top = (x : ℕ) → x < top → row' x ≡ min (row x) (back row v x + gain)
  Taken false row row' v top = (x : ℕ) → x < top → row' x ≡ min never (back row v x + gain)

  from_is : from l i ≡ lot l.old (kind ∷ drop (i + 1) l.kinds) (weight ∷ drop (i + 1) l.weights) (age ∷ drop (i + 1) l.ages)
  from_is = rw (drop_more l.kinds i 0 (omega arith), drop_more l.weights i 0 few, drop_more l.ages i 0 (omega arith)) refl

  module _ (most : List ℕ) (kinds wide v : ℕ) (room room' : List ℕ) (young : Bool) (known : kind < kinds) (fits : (k : ℕ) → 16 * (get_or most k 0 / 16 + 1) + 16 ≤ wide)
      (is-young : ltb age l.old ≡ young) (lies : 1 ≤ weight → v ≡ weight) (empty : weight ≡ 0 → 16 * (get_or most kind 0 / 16 + 1) ≤ v)
      (same : (j : ℕ) → (j < wide * kind + 16) ⊎ (wide * kind + 16 + 16 * (get_or most kind 0 / 16 + 1) ≤ j) → get_or room' j 0 ≡ get_or room j 0)
      (taken : Taken young (row_at room (wide * kind + 16)) (row_at room' (wide * kind + 16)) v (16 * (get_or most kind 0 / 16 + 1)))
      (h : Tables (from l (i + 1)) most kinds wide room) where
    -- what stands in another row stays
    apart : (k a : ℕ) → k ≢ kind → a < wide → get_or room' (wide * k + a) 0 ≡ get_or room (wide * k + a) 0
    apart k a ne low = at (areas_apart wide k kind a 0 low (omega (arith, fits 0)) ne)
      where
        at : (wide * k + a < wide * kind) ⊎ (wide * kind + wide ≤ wide * k + a) → get_or room' (wide * k + a) 0 ≡ get_or room (wide * k + a) 0
        at (inl g) = same (wide * k + a) (inl (omega arith))
        at (inr g) = same (wide * k + a) (inr (omega (arith, fits kind)))

    here : (x : ℕ) → x < 16 * (get_or most kind 0 / 16 + 1) → Least (Makes (is kind) (from l i) x) (cost (is kind) (from l i)) (row_at room' (wide * kind + 16) x)
    here x low = rw from_is (at young is-young taken)
      where
        of : eqb kind kind ≡ true
        of = eq-eqb kind kind refl

        before : (z : ℕ) → z ≤ x → Least (Makes (is kind) (from l (i + 1)) z) (cost (is kind) (from l (i + 1))) (row_at room (wide * kind + 16) z)
        before z le = h.row kind z known (omega arith)

        at : (b : Bool) → ltb age l.old ≡ b → Taken b (row_at room (wide * kind + 16)) (row_at room' (wide * kind + 16)) v (16 * (get_or most kind 0 / 16 + 1)) →
            Least (Makes (is kind) (lot l.old (kind ∷ drop (i + 1) l.kinds) (weight ∷ drop (i + 1) l.weights) (age ∷ drop (i + 1) l.ages)) x)
            (cost (is kind) (lot l.old (kind ∷ drop (i + 1) l.kinds) (weight ∷ drop (i + 1) l.weights) (age ∷ drop (i + 1) l.ages))) (row_at room' (wide * kind + 16) x)
        at true e t =
            rw (t x low)
            (taken_young (is kind) l.old kind weight age (drop (i + 1) l.kinds) (drop (i + 1) l.weights) (drop (i + 1) l.ages) of (row_at room (wide * kind + 16)) v x e before lies (λ z. omega (arith, empty z)))
        at false e t =
            rw (t x low)
            (taken_old (is kind) l.old kind weight age (drop (i + 1) l.kinds) (drop (i + 1) l.weights) (drop (i + 1) l.ages) of (row_at room (wide * kind + 16)) v x e before lies (λ z. omega (arith, empty z)))

    there : (k x : ℕ) → k ≢ kind → k < kinds → x < 16 * (get_or most k 0 / 16 + 1) → Least (Makes (is k) (from l i) x) (cost (is k) (from l i)) (row_at room' (wide * k + 16) x)
    there k x ne in' low =
        let e : wide * k + 16 + x ≡ wide * k + (16 + x) = omega arith in
        let s : get_or room' (wide * k + 16 + x) 0 ≡ get_or room (wide * k + 16 + x) 0 = rw e (apart k (16 + x) ne (omega (arith, fits k))) in
        let off : eqb kind k ≡ false = ne_eqb kind k (λ f. ne (sym f)) in
        rw (from_is, s) (other (is k) l.old kind weight age (drop (i + 1) l.kinds) (drop (i + 1) l.weights) (drop (i + 1) l.ages) x (get_or room (wide * k + 16 + x) 0) off (h.row k x in' low))

    capped : (j : ℕ) → get_or room' j 0 ≤ never
    capped j = at (cases_lt j (wide * kind + 16)) (cases_lt j (wide * kind + 16 + 16 * (get_or most kind 0 / 16 + 1)))
      where
        lowered : (b : Bool) (x : ℕ) → Taken b (row_at room (wide * kind + 16)) (row_at room' (wide * kind + 16)) v (16 * (get_or most kind 0 / 16 + 1)) → x < 16 * (get_or most kind 0 / 16 + 1) → row_at room' (wide * kind + 16) x ≤ never
        lowered true x t low = omega (arith, t x low, h.capped (wide * kind + 16 + x))
        lowered false x t low = omega (arith, t x low)

        at : (j < wide * kind + 16) ⊎ (wide * kind + 16 ≤ j) → (j < wide * kind + 16 + 16 * (get_or most kind 0 / 16 + 1)) ⊎ (wide * kind + 16 + 16 * (get_or most kind 0 / 16 + 1) ≤ j) → get_or room' j 0 ≤ never
        at (inl g) f = rw (same j (inl g)) (h.capped j)
        at (inr g) (inr f) = rw (same j (inr f)) (h.capped j)
        at (inr g) (inl f) =
            let e : wide * kind + 16 + (j - (wide * kind + 16)) ≡ j = omega arith in
            rw e at (lowered young (j - (wide * kind + 16)) taken (omega arith))

    pub tables_next : Tables (from l i) most kinds wide room'
    tables_next =
        record {
          row = λ k x in' low. row k x in' low (cases_eq k kind);
          blank = λ k j in' low. blank k j in' low (cases_eq k kind);
          capped = capped;
        }
      where
        row : (k x : ℕ) → k < kinds → x < 16 * (get_or most k 0 / 16 + 1) → (k ≡ kind) ⊎ (k ≢ kind) → Least (Makes (is k) (from l i) x) (cost (is k) (from l i)) (row_at room' (wide * k + 16) x)
        row k x in' low (inl e) = rw e (here x (rw e at low))
        row k x in' low (inr ne) = there k x ne in' low

        blank : (k j : ℕ) → k < kinds → j < 16 → (k ≡ kind) ⊎ (k ≢ kind) → get_or room' (wide * k + j) 0 ≡ never
        blank k j in' low (inl e) = rw e (same (wide * kind + j) (inl (omega arith)) ∙ h.blank kind j known low)
        blank k j in' low (inr ne) = apart k j ne (omega (arith, fits 0)) ∙ h.blank k j in' low
