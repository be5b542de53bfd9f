-- A list cut where a run of elements ends.
use Rattle.std.proofs.Common.{◌≡◌, ℕ, ◌<◌, List, [], ◌∷◌, ◌++◌, length, get_or, take, drop, sym, refl, ap, ◌∙◌, subst, ⊎_elim, arith, take-append-drop}
use Rattle.std.proofs.lemmas.List.{drop_more, drop_all}
use Rattle.std.proofs.lemmas.Bool.{cases_lt}
use Rattle.std.specs.List.{AllByRecursion as All}

-- bs does not begin with an element of the run
abbrev pub Outside : (ℕ → Type 0) → List ℕ → Type 0
Outside P [] = Unit {0}
Outside P (b ∷ bs) = P b → ⊥

first : {x y : ℕ} {xs ys : List ℕ} → x ∷ xs ≡ y ∷ ys → x ≡ y
first e = ap (λ l. get_or l 0 0) e

pub tail : {x y : ℕ} {xs ys : List ℕ} → x ∷ xs ≡ y ∷ ys → xs ≡ ys
tail e = ap (drop 1) e

module _ (P : ℕ → Type 0) where
  -- a list is cut in one way
  pub same_cut : (xs ys us vs : List ℕ) → All P xs → All P ys → Outside P us → Outside P vs → xs ++ us ≡ ys ++ vs → (xs ≡ ys) × (us ≡ vs)
  same_cut [] [] us vs p q o u e = (refl, e)
  same_cut [] (y ∷ ys) [] vs p q o u e = absurd (omega (arith, ap length e))
  same_cut [] (y ∷ ys) (a ∷ us) vs p q o u e = absurd (o (subst P (sym (first e)) q.0))
  same_cut (x ∷ xs) [] us [] p q o u e = absurd (omega (arith, ap length e))
  same_cut (x ∷ xs) [] us (b ∷ vs) p q o u e = absurd (u (subst P (first e) p.0))
  same_cut (x ∷ xs) (y ∷ ys) us vs p q o u e =
      let r = same_cut xs ys us vs p.1 q.1 o u (tail e) in
      ((λ i. first e i ∷ r.0 i), r.1)

  outside_drop : (bs : List ℕ) (i : ℕ) → (i < length bs → P (get_or bs i 0) → ⊥) → Outside P (drop i bs)
  outside_drop bs i stops =
      ⊎_elim
      (λ lt. subst (Outside P) (sym (drop_more bs i 0 lt)) (stops lt))
      (λ ge. subst (Outside P) (sym (drop_all i bs ge)) tt)
      (cases_lt i (length bs))

  -- a run of i elements that ends there is the run ys
  pub cut_at : (bs ys cs : List ℕ) (i : ℕ) → All P (take i bs) → (i < length bs → P (get_or bs i 0) → ⊥) → All P ys → Outside P cs → bs ≡ ys ++ cs → (take i bs ≡ ys) × (drop i bs ≡ cs)
  cut_at bs ys cs i run stops all out e = same_cut (take i bs) ys (drop i bs) cs run all (outside_drop bs i stops) out (take-append-drop i bs ∙ e)
