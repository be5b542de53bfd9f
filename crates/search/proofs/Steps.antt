-- How a step changes the best so far: by candidates that are skipped, and by one that is taken.
use Rattle.std.proofs.Common.{◌≡◌, ℕ, ◌+◌, ◌<◌, ◌≤◌, Bool, true, false, Some, None, Option, refl, inl, inr, arith}
use Rattle.std.specs.Cmp.{IsStrictWeakOrder}
use Rattle.std.proofs.lemmas.Bool.{both_ways, cases_lt}
use Rattle.search.specs.Sought.{Sought, Leads, Passes}

module _ (allows : ℕ → Bool) (beats : ℕ → ℕ → Bool) where
  -- skipped candidates change nothing
  pub sought_passed :
      (n r : ℕ) (best : Option ℕ) → n ≤ r → Sought allows beats n best →
      ((j : ℕ) → n ≤ j → j < r → Passes allows beats best j) → Sought allows beats r best
  sought_passed n r None le h p = λ k l. elim (cases_lt k n) [ inl b ↦ h k b | inr b ↦ p k b l ]
  sought_passed n r (Some b) le h p =
      record {
        below = omega (arith, h.below);
        allowed = h.allowed;
        unbeaten = λ k l a. elim (cases_lt k n) [ inl i ↦ h.unbeaten k i a | inr i ↦ p k i l a ];
      }

  pub passes_shut : (k : ℕ) (best : Option ℕ) → allows k ≡ false → Passes allows beats best k
  passes_shut k None e = e
  passes_shut k (Some b) e = λ a. absurd (both_ways (allows k) e a)

  -- a candidate that does not beat the best so far changes nothing
  pub sought_kept : (k : ℕ) (best : Option ℕ) → Sought allows beats k best → Passes allows beats best k → Sought allows beats (k + 1) best
  sought_kept k best h p = sought_passed k (k + 1) best (omega arith) h (λ j le lt. same j (omega arith))
    where
      same : (j : ℕ) → j ≡ k → Passes allows beats best j
      same j e = rw e p

  never_self : IsStrictWeakOrder beats → (k : ℕ) → beats k k ≡ false
  never_self o k = at (beats k k) refl
    where
      at : (b : Bool) → beats k k ≡ b → beats k k ≡ false
      at false e = e
      at true e = o.one_way k k e

  pub sought_first : IsStrictWeakOrder beats → (k : ℕ) → Sought allows beats k None → allows k ≡ true → Leads allows beats (k + 1) k
  sought_first o k h a =
      record {
        below = omega arith;
        allowed = a;
        unbeaten = λ j l b. elim (cases_lt j k) [ inl i ↦ absurd (both_ways (allows j) (h j i) b) | inr i ↦ self j (omega arith) ];
      }
    where
      self : (j : ℕ) → j ≡ k → beats j k ≡ false
      self j e = rw e (never_self o k)

  pub sought_takes : IsStrictWeakOrder beats → (k b : ℕ) → Leads allows beats k b → allows k ≡ true → beats k b ≡ true → Leads allows beats (k + 1) k
  sought_takes o k b h a w =
      record {
        below = omega arith;
        allowed = a;
        unbeaten = λ j l d. elim (cases_lt j k) [ inl i ↦ o.chain j b k (h.unbeaten j i d) (o.one_way k b w) | inr i ↦ self j (omega arith) ];
      }
    where
      self : (j : ℕ) → j ≡ k → beats j k ≡ false
      self j e = rw e (never_self o k)
