-- A merge whose rest is done by another merge.
use Rattle.std.proofs.Common.{◌≡◌, ℕ, ◌+◌, ◌<◌, ◌≤◌, ◌⊎◌, List, get_or, sym, ap, ◌∙◌, inl, inr, ⊎_elim, arith}
use Rattle.std.proofs.lemmas.Bool.{cases_lt}
use Rattle.halves_growth.specs.Entries.{Sorted, Holds, Merged}
use Rattle.halves_growth.proofs.Merging.{Behind, Merging}

-- what is placed stays, and the rest is merged by itself
pub merged_rest :
    (old mid es : List ℕ) (n m gain i j : ℕ) → Merging old mid n m gain i j →
    Merged mid es i j gain → ((q : ℕ) → i + j ≤ q → get_or es q 0 ≡ get_or mid q 0) → Merged old es n m gain
merged_rest old mid es n m gain i j h g rest =
    record {
      rises = λ p q a l. ordered p q a l (cases_lt p (i + j)) (cases_lt q (i + j));
      keeps = λ p l. ⊎_elim (λ k. let x = g.keeps p k in (x.0, omega (arith, x.1, small), x.2 ∙ h.front p k)) (λ k. behind (h.keeps p k l)) (cases_lt p i);
      adds = λ p l. ⊎_elim (λ k. let x = g.adds p k in (x.0, omega (arith, x.1, small), x.2 ∙ ap (λ (y : ℕ). y + gain) (h.front p (omega (arith, h.fewer))))) (λ k. behind (h.adds p k l)) (cases_lt p j);
      only = λ q l. ⊎_elim (λ k. from q (g.only q k)) (λ k. rw (rest q k) (h.only q k l)) (cases_lt q (i + j));
    }
  where
    small : i + j ≤ n + m
    small = omega (arith, h.kept_left, h.added_left)

    behind : {y : ℕ} → Behind mid (i + j) (n + m) y → Holds es (n + m) y
    behind (q, a, l, e) = (q, l, rest q a ∙ e)

    from : (q : ℕ) → Holds mid i (get_or es q 0) ⊎ ((p : ℕ) × (p < j) × (get_or mid p 0 + gain ≡ get_or es q 0)) → Holds old n (get_or es q 0) ⊎ ((p : ℕ) × (p < m) × (get_or old p 0 + gain ≡ get_or es q 0))
    from q (inl (p, l, e)) = inl (p, omega (arith, h.kept_left), sym (h.front p l) ∙ e)
    from q (inr (p, l, e)) = inr (p, omega (arith, h.added_left), ap (λ (y : ℕ). y + gain) (sym (h.front p (omega (arith, h.fewer)))) ∙ e)

    under : (p q : ℕ) → i + j ≤ q → q < n + m → Holds mid i (get_or es p 0) ⊎ ((r : ℕ) × (r < j) × (get_or mid r 0 + gain ≡ get_or es p 0)) → get_or es p 0 ≤ get_or es q 0
    under p q a l (inl (r, k, e)) = omega (arith, e, h.front r k, h.above r q k a l, rest q a)
    under p q a l (inr (r, k, e)) = omega (arith, e, h.front r (omega (arith, h.fewer)), h.above_added r q k a l, rest q a)

    ordered : (p q : ℕ) → p ≤ q → q < n + m → (p < i + j) ⊎ (i + j ≤ p) → (q < i + j) ⊎ (i + j ≤ q) → get_or es p 0 ≤ get_or es q 0
    ordered p q a l (inl e) (inl f) = g.rises p q a f
    ordered p q a l (inl e) (inr f) = under p q f l (g.only p e)
    ordered p q a l (inr e) (inl f) = absurd (omega arith)
    ordered p q a l (inr e) (inr f) = omega (arith, rest p e, rest q f, h.rises p q e a l)

-- what is still to be placed is sorted
pub sorted_left : (old es : List ℕ) (n m gain i j : ℕ) → Merging old es n m gain i j → Sorted old n → Sorted es i
sorted_left old es n m gain i j h s =
    record {
      rises = λ p q a l. omega (arith, h.front p (omega arith), h.front q l, s.rises p q a (omega (arith, h.kept_left)));
      low = λ p l. omega (arith, h.front p l, s.low p (omega (arith, h.kept_left)));
    }
