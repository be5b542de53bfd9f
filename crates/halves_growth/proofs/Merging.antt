-- A merge from the back: each turn puts one entry in its final place.
use Rattle.std.proofs.Common.{◌≡◌, ℕ, ◌+◌, ◌-◌, ◌<◌, ◌≤◌, max, ◌≢◌, ◌⊎◌, List, length, get_or, set, sym, refl, ap, ◌∙◌, inl, inr, ⊎_elim, arith}
use Rattle.std.proofs.lemmas.List.{get_or-set_same, get_or-set_other}
use Rattle.std.proofs.lemmas.Bool.{cases_eq, cases_lt}
use Rattle.halves_growth.specs.Entries.{Rises, Holds, Merged}

-- x is among the entries from t up to e
abbrev pub Behind : List ℕ → ℕ → ℕ → ℕ → Type 0
Behind es t e x = (q : ℕ) × (t ≤ q) × (q < e) × (get_or es q 0 ≡ x)

-- i entries and j raised ones are still to be placed, all others are in their final places
pub record Merging (old es : List ℕ) (n m gain i j : ℕ) : Type 0 where
  pub kept_left : i ≤ n
  pub added_left : j ≤ m
  pub fewer : j ≤ i
  pub front : (p : ℕ) → p < i → get_or es p 0 ≡ get_or old p 0
  pub rises : (p q : ℕ) → i + j ≤ p → p ≤ q → q < n + m → get_or es p 0 ≤ get_or es q 0
  pub above : (p q : ℕ) → p < i → i + j ≤ q → q < n + m → get_or old p 0 ≤ get_or es q 0
  pub above_added : (p q : ℕ) → p < j → i + j ≤ q → q < n + m → get_or old p 0 + gain ≤ get_or es q 0
  pub keeps : (p : ℕ) → i ≤ p → p < n → Behind es (i + j) (n + m) (get_or old p 0)
  pub adds : (p : ℕ) → j ≤ p → p < m → Behind es (i + j) (n + m) (get_or old p 0 + gain)
  pub only : (q : ℕ) → i + j ≤ q → q < n + m → Holds old n (get_or es q 0) ⊎ ((p : ℕ) × (p < m) × (get_or old p 0 + gain ≡ get_or es q 0))

pub merging_none : (es : List ℕ) (n m gain : ℕ) → m ≤ n → Merging es es n m gain n m
merging_none es n m gain h =
    record {
      kept_left = omega arith;
      added_left = omega arith;
      fewer = h;
      front = λ p l. refl;
      rises = λ p q a b l. absurd (omega arith);
      above = λ p q a b l. absurd (omega arith);
      above_added = λ p q a b l. absurd (omega arith);
      keeps = λ p a l. absurd (omega arith);
      adds = λ p a l. absurd (omega arith);
      only = λ q a l. absurd (omega arith);
    }

-- x is put at t, right before those in their final places
pub merging_more :
    (old es es' : List ℕ) (n m gain i j i' j' t x : ℕ) → Merging old es n m gain i j →
    get_or es' t 0 ≡ x → ((q : ℕ) → q ≢ t → get_or es' q 0 ≡ get_or es q 0) →
    t + 1 ≡ i + j → i' + j' ≡ t → i' ≤ i → j' ≤ j → j' ≤ i' → 0 < j →
    ((p : ℕ) → p < i' → get_or old p 0 ≤ x) → ((p : ℕ) → p < j' → get_or old p 0 + gain ≤ x) →
    ((q : ℕ) → i + j ≤ q → q < n + m → x ≤ get_or es q 0) →
    ((p : ℕ) → i' ≤ p → p < i → x ≡ get_or old p 0) → ((p : ℕ) → j' ≤ p → p < j → x ≡ get_or old p 0 + gain) →
    (Holds old n x ⊎ ((p : ℕ) × (p < m) × (get_or old p 0 + gain ≡ x))) →
    Merging old es' n m gain i' j'
merging_more old es es' n m gain i j i' j' t x h here there at at' li lj fewer some below below-added above keeps adds from =
    record {
      kept_left = omega (arith, h.kept_left);
      added_left = omega (arith, h.added_left);
      fewer = fewer;
      front = λ p l. there p (omega arith) ∙ h.front p (omega arith);
      rises = λ p q a b l. ordered p q a b l (cases_eq p t) (cases_eq q t);
      above = λ p q a b l. over (get_or old p 0) q (below p a) b l (λ k. h.above p q (omega arith) k l);
      above_added = λ p q a b l. over (get_or old p 0 + gain) q (below-added p a) b l (λ k. h.above_added p q (omega arith) k l);
      keeps = λ p a l. ⊎_elim (λ k. (t, omega arith, omega (arith, h.kept_left, h.added_left), here ∙ keeps p a k)) (λ k. settled (h.keeps p k l)) (cases_lt p i);
      adds = λ p a l. ⊎_elim (λ k. (t, omega arith, omega (arith, h.kept_left, h.added_left), here ∙ adds p a k)) (λ k. settled (h.adds p k l)) (cases_lt p j);
      only = λ q a l. origin q a l (cases_eq q t);
    }
  where
    settled : {y : ℕ} → Behind es (i + j) (n + m) y → Behind es' (i' + j') (n + m) y
    settled (q, a, l, e) = (q, omega arith, l, there q (omega arith) ∙ e)

    over : (y q : ℕ) → y ≤ x → i' + j' ≤ q → q < n + m → (i + j ≤ q → y ≤ get_or es q 0) → y ≤ get_or es' q 0
    over y q a b l f = ⊎_elim (λ e. rw e (omega (arith, here))) (λ e. omega (arith, there q e, f (omega arith))) (cases_eq q t)

    ordered : (p q : ℕ) → i' + j' ≤ p → p ≤ q → q < n + m → (p ≡ t) ⊎ (p ≡ t → ⊥) → (q ≡ t) ⊎ (q ≡ t → ⊥) → get_or es' p 0 ≤ get_or es' q 0
    ordered p q a b l (inl e) (inl f) = rw (e, f) (omega arith)
    ordered p q a b l (inl e) (inr f) = rw e (omega (arith, here, there q f, above q (omega arith) l))
    ordered p q a b l (inr e) (inl f) = absurd (omega arith)
    ordered p q a b l (inr e) (inr f) = omega (arith, there p e, there q f, h.rises p q (omega arith) b l)

    origin : (q : ℕ) → i' + j' ≤ q → q < n + m → (q ≡ t) ⊎ (q ≡ t → ⊥) → Holds old n (get_or es' q 0) ⊎ ((p : ℕ) × (p < m) × (get_or old p 0 + gain ≡ get_or es' q 0))
    origin q a l (inl e) = rw (e, here) from
    origin q a l (inr e) = rw (there q e) (h.only q (omega arith) l)

-- one turn: the larger of the two last ones is placed
module _ (old es : List ℕ) (n m gain i j : ℕ) (h : Merging old es n m gain i j) (some : 0 < j) (room : n + m ≤ length es) (rises : Rises old n) where
  last_kept : get_or es (i - 1) 0 ≡ get_or old (i - 1) 0
  last_kept = h.front (i - 1) (omega (arith, h.fewer))

  last_added : get_or es (j - 1) 0 ≡ get_or old (j - 1) 0
  last_added = h.front (j - 1) (omega (arith, h.fewer))

  last_below : (p : ℕ) → p < j → get_or old p 0 + gain ≤ get_or old (j - 1) 0 + gain
  last_below p l = omega (arith, rises p (j - 1) (omega arith) (omega (arith, h.fewer, h.kept_left)))

  written : (x : ℕ) → get_or (set es (i + j - 1) x) (i + j - 1) 0 ≡ x
  written x = get_or-set_same es (i + j - 1) x 0 (omega (arith, h.kept_left, h.added_left))

  unwritten : (x q : ℕ) → q ≢ i + j - 1 → get_or (set es (i + j - 1) x) q 0 ≡ get_or es q 0
  unwritten x q e = get_or-set_other es (i + j - 1) q x 0 e

  pub merging_keep : (x : ℕ) → x ≡ get_or es (i - 1) 0 → get_or es (j - 1) 0 + gain < x → Merging old (set es (i + j - 1) x) n m gain (i - 1) j
  merging_keep x e l =
      let k : j < i = ⊎_elim (λ k. k) (λ k. absurd (omega (arith, e, l, ap (λ (y : ℕ). get_or es (y - 1) 0) (i_is k)))) (cases_lt j i) in
      merging_more old es _ n m gain i j (i - 1) j (i + j - 1) x h (written x) (unwritten x) (omega arith) (omega arith) (omega arith) (omega arith) (omega arith) some
      (λ p a. omega (arith, e, last_kept, rises p (i - 1) (omega arith) (omega (arith, h.kept_left))))
      (λ p a. omega (arith, l, last_added, last_below p a))
      (λ q a b. omega (arith, e, last_kept, h.above (i - 1) q (omega arith) a b))
      (λ p a b. e ∙ last_kept ∙ ap (λ (y : ℕ). get_or old y 0) (omega arith))
      (λ p a b. absurd (omega arith))
      (inl (i - 1, omega (arith, h.kept_left), sym (e ∙ last_kept)))
    where
      i_is : i ≤ j → i ≡ j
      i_is k = omega (arith, h.fewer)

  pub merging_add : (x : ℕ) → x ≡ get_or es (j - 1) 0 + gain → get_or es (i - 1) 0 ≤ x → Merging old (set es (i + j - 1) x) n m gain i (j - 1)
  merging_add x e l =
      merging_more old es _ n m gain i j i (j - 1) (i + j - 1) x h (written x) (unwritten x) (omega arith) (omega arith) (omega arith) (omega arith) (omega (arith, h.fewer)) some
      (λ p a. omega (arith, l, last_kept, rises p (i - 1) (omega arith) (omega (arith, h.kept_left))))
      (λ p a. omega (arith, e, last_added, last_below p (omega arith)))
      (λ q a b. omega (arith, e, last_added, h.above_added (j - 1) q (omega arith) a b))
      (λ p a b. absurd (omega arith))
      (λ p a b. let d : p ≡ j - 1 = omega arith in rw d (omega (arith, e, last_added)))
      (inr (j - 1, omega (arith, h.added_left), omega (arith, e, last_added)))

  -- the index of the larger one moves
  pub merging_turn :
      (x k : ℕ) → x ≡ max (get_or es (i - 1) 0) (get_or es (j - 1) 0 + gain) →
      ((k ≡ 1) × (get_or es (j - 1) 0 + gain < get_or es (i - 1) 0)) ⊎ ((k ≡ 0) × (get_or es (i - 1) 0 ≤ get_or es (j - 1) 0 + gain)) →
      Merging old (set es (i + j - 1) x) n m gain (i - k) (j - (1 - k))
  merging_turn x k e (inl (one, l)) =
      let d : j - (1 - k) ≡ j = omega arith in
      rw (d, one) (merging_keep x (omega arith) (omega arith))
  merging_turn x k e (inr (none, l)) =
      let d : i - k ≡ i = omega arith in
      let f : j - (1 - k) ≡ j - 1 = omega arith in
      rw (d, f) (merging_add x (omega arith) (omega arith))

-- nothing raised is left
pub merging_all : (old es : List ℕ) (n m gain i j : ℕ) → Rises old n → j ≤ 0 → Merging old es n m gain i j → Merged old es n m gain
merging_all old es n m gain i j rises none h =
    record {
      rises = λ p q a l. ordered p q a l (cases_lt p i) (cases_lt q i);
      keeps = λ p l. ⊎_elim (λ k. (p, omega arith, h.front p k)) (λ k. behind (h.keeps p k l)) (cases_lt p i);
      adds = λ p l. behind (h.adds p (omega arith) l);
      only = λ q l. ⊎_elim (λ k. inl (q, omega (arith, h.kept_left), sym (h.front q k))) (λ k. h.only q (omega arith) l) (cases_lt q i);
    }
  where
    behind : {y : ℕ} → Behind es (i + j) (n + m) y → Holds es (n + m) y
    behind (q, a, l, e) = (q, l, e)

    ordered : (p q : ℕ) → p ≤ q → q < n + m → (p < i) ⊎ (i ≤ p) → (q < i) ⊎ (i ≤ q) → get_or es p 0 ≤ get_or es q 0
    ordered p q a l (inl e) (inl f) = omega (arith, h.front p e, h.front q f, rises p q a (omega (arith, h.kept_left)))
    ordered p q a l (inl e) (inr f) = omega (arith, h.front p e, h.above p q e (omega arith) l)
    ordered p q a l (inr e) (inl f) = absurd (omega arith)
    ordered p q a l (inr e) (inr f) = h.rises p q (omega arith) a l
