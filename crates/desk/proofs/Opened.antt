-- One pan more of those that a number opens.
use Rattle.std.proofs.Common.{◌≡◌, ℕ, ◌+◌, ◌/◌, ◌%◌, ◌^◌, cond, eqb, [], ◌∷◌, ◌++◌, sym, ap, ◌∙◌, append-nil, add-one}
use Rattle.std.proofs.lemmas.Bool.{cond-true, cond-false, eq-eqb, ne_eqb}
use Rattle.desk.specs.Printed.{pans_below}
use Rattle.text.specs.Written.{spaced}
use Rattle.text.proofs.Spacing.{spaced_append}

module _ (k pans : ℕ) where
  more : pans_below (k + 1) pans ≡ pans_below k pans ++ cond (eqb (pans / 2 ^ k % 2) 1) (k ∷ []) []
  unfolding pans_below
  more = rw add-one

  pub pans_open : pans / 2 ^ k % 2 ≡ 1 → spaced (pans_below k pans) ++ spaced (k ∷ []) ≡ spaced (pans_below (k + 1) pans)
  pans_open h = sym (ap spaced (more ∙ ap (λ l. pans_below k pans ++ l) (cond-true _ _ _ (eq-eqb _ 1 h))) ∙ spaced_append (pans_below k pans) (k ∷ []))

  pub pans_shut : (pans / 2 ^ k % 2 ≡ 1 → ⊥) → spaced (pans_below k pans) ≡ spaced (pans_below (k + 1) pans)
  pans_shut h = ap spaced (sym (more ∙ ap (λ l. pans_below k pans ++ l) (cond-false _ _ _ (ne_eqb _ 1 h)) ∙ append-nil (pans_below k pans)))
