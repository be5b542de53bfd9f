-- An array made element by element by a closure that stays as it was.
use Rattle.std.proofs.Common.{◌≡◌, ℕ, zero, suc, ◌+◌, ◌<◌, ◌≤◌, List, get_or, sym, subst, ⊎_elim, arith}
use Rattle.std.proofs.lemmas.Bool.{cases_eq, cases_lt}
use Rattle.std.proofs.lemmas.List.{get_or_past}
use Rattle.std.specs.Array.{IsFromFnResult, IsFromFnResultFrom}
use denote.Param.Members.{Called, Mut}

made_from :
    {F B : Type 0} (g : Mut F (ℕ × Unit {0}) B) (f : F) (P : ℕ → B → Type 0) (ys : List B) → ((x : ℕ) (r : B) (q : F) → Called g f (x, tt) r q → (q ≡ f) × P x r) →
    (n i : ℕ) → IsFromFnResultFrom g f ys i n → (k : ℕ) (d : B) → i ≤ k → k < i + n → P k (get_or ys k d)
made_from g f P ys h zero i m k d l u = absurd (omega arith)
made_from g f P ys h (suc n) i m k d l u =
    let s = h i m.1 m.0 m.3 in
    ⊎_elim (λ e. subst (λ (j : ℕ). P j (get_or ys j d)) (sym e) (subst (λ (y : _). P i y) (sym (m.2.1 d)) s.1)) (λ e. made_from g f P ys h n (i + 1) (rw s.0 at m.4) k d (omega arith) (omega arith)) (cases_eq k i)

-- what each call gives each element is
pub made_each :
    {F B : Type 0} {g : Mut F (ℕ × Unit {0}) B} {f : F} {ys : List B} {n : ℕ} → IsFromFnResult g f ys n → (P : ℕ → B → Type 0) →
    ((x : ℕ) (r : B) (q : F) → Called g f (x, tt) r q → (q ≡ f) × P x r) → (k : ℕ) (d : B) → k < n → P k (get_or ys k d)
made_each {g = g} {f = f} {ys = ys} {n = n} m P h k d l = made_from g f P ys h n 0 m.each k d (omega arith) (omega arith)

-- a bound on each call's number is one on the array's
pub made_low :
    {F : Type 0} {g : Mut F (ℕ × Unit {0}) ℕ} {f : F} {ys : List ℕ} {n : ℕ} → IsFromFnResult g f ys n → (m : ℕ) →
    ((x : ℕ) (r : ℕ) (q : F) → Called g f (x, tt) r q → (q ≡ f) × (r ≤ m)) → (i : ℕ) → get_or ys i 0 ≤ m
made_low {ys = ys} {n = n} h m each i =
    ⊎_elim (λ l. made_each h (λ _ r. r ≤ m) each i 0 l) (λ l. omega (arith, get_or_past ys i 0 (omega (arith, h.long)))) (cases_lt i n)
