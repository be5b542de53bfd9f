-- A sieve that moves what is kept to the front: the entries kept so far, and those still to be read.
use Rattle.std.proofs.Common.{◌≡◌, ℕ, ◌+◌, ◌-◌, ◌<◌, ◌≤◌, ◌⊎◌, List, length, get_or, set, sym, refl, ap, ◌∙◌, inl, inr, ⊎_elim, arith}
use Rattle.std.proofs.lemmas.List.{get_or-set_same, get_or-set_other}
use Rattle.std.proofs.lemmas.Bool.{cases_eq}
use Rattle.halves_places.specs.Place.{pans_in}
use Rattle.halves_growth.specs.Entries.{Rises, Holds}
use Rattle.halves_sieves.specs.Sieve.{Kept, Sieved}

-- i entries are read, and those of them that are kept are the first k
pub record Sieving (short : List ℕ) (old es : List ℕ) (n i k : ℕ) : Type 0 where
  pub behind : k ≤ i
  pub unread : (p : ℕ) → i ≤ p → get_or es p 0 ≡ get_or old p 0
  pub rises : Rises es k
  pub below : (q p : ℕ) → q < k → i ≤ p → p < n → get_or es q 0 ≤ get_or old p 0
  pub keeps : (p : ℕ) → p < i → Kept short (get_or old p 0) → Holds es k (get_or old p 0)
  pub only : (q : ℕ) → q < k → Holds old i (get_or es q 0)
  pub lean : (q : ℕ) → q < k → Kept short (get_or es q 0)

-- one entry more is read, and kept or not
pub sieving_more :
    (short : List ℕ) (old es : List ℕ) (n i k k' : ℕ) → Sieving short old es n i k → i < n → n ≤ length es → Rises old n →
    ((k' ≡ k + 1) × Kept short (get_or old i 0)) ⊎ ((k' ≡ k) × (Kept short (get_or old i 0) → ⊥)) →
    Sieving short old (set es k (get_or es i 0)) n (i + 1) k'
sieving_more short old es n i k k' h l room up came =
    record {
      behind = ⊎_elim (λ z. omega (arith, z.0, h.behind)) (λ z. omega (arith, z.0, h.behind)) came;
      unread = λ p a. there p (omega (arith, h.behind)) ∙ h.unread p (omega arith);
      rises = λ p q a b. ordered p q a (settled p (omega arith)) (settled q b);
      below = λ q p a b c. ⊎_elim (λ z. omega (arith, z.1, h.below q p z.0 (omega arith) c)) (λ z. omega (arith, z.1, up i p (omega arith) c)) (settled q a);
      keeps = λ p a o. ⊎_elim (λ e. fresh p e o) (λ e. stays (h.keeps p (omega arith) o)) (cases_eq p i);
      only = λ q a. ⊎_elim (λ z. let x = h.only q z.0 in (x.0, omega (arith, x.1), x.2 ∙ sym z.1)) (λ z. (i, omega arith, sym z.1)) (settled q a);
      lean = λ q a. ⊎_elim (λ z. rw z.1 (h.lean q z.0)) (λ z. rw z.1 (new q a z.0)) (settled q a);
    }
  where
    es' : List ℕ
    es' = set es k (get_or es i 0)

    here : (q : ℕ) → q ≡ k → get_or es' q 0 ≡ get_or old i 0
    here q e = ap (λ (m : ℕ). get_or es' m 0) e ∙ (get_or-set_same es k (get_or es i 0) 0 (omega (arith, h.behind)) ∙ h.unread i (omega arith))

    there : (q : ℕ) → (q ≡ k → ⊥) → get_or es' q 0 ≡ get_or es q 0
    there q e = get_or-set_other es k q (get_or es i 0) 0 e

    settled : (q : ℕ) → q < k' → ((q < k) × (get_or es' q 0 ≡ get_or es q 0)) ⊎ ((q ≡ k) × (get_or es' q 0 ≡ get_or old i 0))
    settled q a = ⊎_elim (λ e. inr (e, here q e)) (λ e. inl (⊎_elim (λ z. omega (arith, z.0)) (λ z. omega (arith, z.0)) came, there q e)) (cases_eq q k)

    ordered : (p q : ℕ) → p ≤ q → ((p < k) × (get_or es' p 0 ≡ get_or es p 0)) ⊎ ((p ≡ k) × (get_or es' p 0 ≡ get_or old i 0)) → ((q < k) × (get_or es' q 0 ≡ get_or es q 0)) ⊎ ((q ≡ k) × (get_or es' q 0 ≡ get_or old i 0)) → get_or es' p 0 ≤ get_or es' q 0
    ordered p q a (inl x) (inl y) = omega (arith, x.1, y.1, h.rises p q a y.0)
    ordered p q a (inl x) (inr y) = omega (arith, x.1, y.1, h.below p i x.0 (omega arith) l)
    ordered p q a (inr x) (inl y) = absurd (omega (arith, x.0, y.0))
    ordered p q a (inr x) (inr y) = omega (arith, x.1, y.1)

    stays : {y : ℕ} → Holds es k y → Holds es' k' y
    stays (q, a, e) = (q, ⊎_elim (λ z. omega (arith, z.0)) (λ z. omega (arith, z.0)) came, there q (omega arith) ∙ e)

    fresh : (p : ℕ) → p ≡ i → Kept short (get_or old p 0) → Holds es' k' (get_or old p 0)
    fresh p e o = ⊎_elim (λ z. (k, omega (arith, z.0), here k refl ∙ ap (λ (m : ℕ). get_or old m 0) (sym e))) (λ z. absurd (z.1 (rw e at o))) came

    new : (q : ℕ) → q < k' → q ≡ k → Kept short (get_or old i 0)
    new q a e = ⊎_elim (λ z. z.1) (λ z. absurd (omega (arith, z.0))) came

pub sieving_all : (short : List ℕ) (old es : List ℕ) (n i k : ℕ) → Sieving short old es n i k → i ≡ n → Sieved short old es n k
sieving_all short old es n i k h e =
    let g = rw e at h in
    record { fewer = g.behind; rises = g.rises; keeps = g.keeps; only = g.only; lean = g.lean; rest = g.unread }

-- the test as the code works it out: k is 1 where the entry is too low
pub kept_or_not :
    (short : List ℕ) (x y left k : ℕ) → x ≡ y → {p : ℕ} → p ≡ pans_in x → ((k ≡ 1) × (x < get_or short p 0)) ⊎ ((k ≡ 0) × (get_or short p 0 ≤ x)) →
    ((left + (1 - k) ≡ left + 1) × Kept short y) ⊎ ((left + (1 - k) ≡ left) × (Kept short y → ⊥))
kept_or_not short x y left k same {p} e (inl (one, l)) = inr (omega arith, λ kept. let z : get_or short (pans_in x) 0 ≤ x = rw same kept in let w : x < get_or short (pans_in x) 0 = rw e at l in omega arith)
kept_or_not short x y left k same {p} e (inr (none, l)) = inl (omega arith, rw (sym same) (rw e at l))
