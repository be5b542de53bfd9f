-- Least costs, and least sums of two rows' costs.
use Rattle.std.proofs.Common.{◌≡◌, ℕ, zero, suc, ◌+◌, ◌-◌, ◌<◌, ◌≤◌, min, ◌⊎◌, List, [], ◌∷◌, length, get_or, inl, inr, refl, arith}
use Rattle.std.proofs.lemmas.Bool.{cases_lt, cases_eq}
use Rattle.kinds_table.specs.Costs.{never, Least}
use Rattle.kinds_table.specs.Rows.{Sum, cost_in}

-- y is the least sum with the first n costs of the one row
abbrev pub SumSoFar : ℕ → (one other : ℕ → ℕ) → (x y : ℕ) → Type 0
SumSoFar n one other x y = Least (λ v. (v ≤ x) × (v < n)) (λ v. one v + other (x - v)) y

-- there is one least cost
pub least_le : {X : Type 0} {Is : X → Type 0} {price : X → ℕ} {y z : ℕ} → Least Is price y → Least Is price z → y ≤ z
least_le {X} {Is} {price} {y} {z} h k = at (cases_lt z never)
  where
    at : (z < never) ⊎ (never ≤ z) → y ≤ z
    at (inl l) = let s = k.some l in omega (arith, h.low s.0 s.1, s.2)
    at (inr l) = omega (arith, h.cap)

pub none_so_far : (one other : ℕ → ℕ) (x : ℕ) → SumSoFar 0 one other x never
none_so_far one other x = record { cap = omega arith; low = λ v h. absurd (omega (arith, h.1)); some = λ l. absurd (omega arith) }

-- one cost more
pub more_so_far : (n : ℕ) (one other : ℕ → ℕ) (x y z : ℕ) → SumSoFar n one other x y → n ≤ x → z ≡ min y (one n + other (x - n)) → SumSoFar (n + 1) one other x z
more_so_far n one other x y z h in' e =
    record {
      cap = omega (arith, h.cap);
      low = λ v g. low v g (cases_eq v n);
      some = λ l. some l (cases_lt y (one n + other (x - n)));
    }
  where
    low : (v : ℕ) → (v ≤ x) × (v < n + 1) → (v ≡ n) ⊎ (v ≡ n → ⊥) → z ≤ one v + other (x - v)
    low v g (inl a) = rw a (omega arith)
    low v g (inr a) = omega (arith, h.low v (g.0, omega (arith, g.1)))

    some : z < never → (y < one n + other (x - n)) ⊎ (one n + other (x - n) ≤ y) → (v : ℕ) × ((v ≤ x) × (v < n + 1)) × (one v + other (x - v) ≡ z)
    some l (inl a) =
        let s = h.some (omega arith) in
        (s.0, (s.1.0, omega (arith, s.1.1)), omega (arith, s.2))
    some l (inr a) = (n, (in', omega arith), omega arith)

-- a cost that is past x, or no cost at all, adds nothing
pub same_so_far : (n : ℕ) (one other : ℕ → ℕ) (x y : ℕ) → SumSoFar n one other x y → (n ≤ x → never ≤ one n) → SumSoFar (n + 1) one other x y
same_so_far n one other x y h none = record { cap = h.cap; low = λ v g. low v g (cases_eq v n); some = λ l. let s = h.some l in (s.0, (s.1.0, omega (arith, s.1.1)), s.2) }
  where
    low : (v : ℕ) → (v ≤ x) × (v < n + 1) → (v ≡ n) ⊎ (v ≡ n → ⊥) → y ≤ one v + other (x - v)
    low v g (inl a) = rw a (omega (arith, h.cap, none (omega (arith, g.0))))
    low v g (inr a) = h.low v (g.0, omega (arith, g.1))

-- all costs: from n on there is none
pub all_so_far : (n : ℕ) (one other : ℕ → ℕ) (x y : ℕ) → SumSoFar n one other x y → ((v : ℕ) → n ≤ v → v ≤ x → never ≤ one v) → Sum one other x y
all_so_far n one other x y h none = record { cap = h.cap; low = λ v g. low v g (cases_lt v n); some = λ l. let s = h.some l in (s.0, s.1.0, s.2) }
  where
    low : (v : ℕ) → v ≤ x → (v < n) ⊎ (n ≤ v) → y ≤ one v + other (x - v)
    low v g (inl a) = h.low v (g, a)
    low v g (inr a) = omega (arith, h.cap, none v a g)

-- a row's costs, and what stands past its end
pub cost_at : (row : List ℕ) (v : ℕ) → v < length row → cost_in row v ≡ get_or row v 0
cost_at [] v l = absurd (omega arith)
cost_at (y ∷ row) zero l = refl
cost_at (y ∷ row) (suc v) l = cost_at row v (omega arith)

pub cost_past : (row : List ℕ) (v : ℕ) → length row ≤ v → cost_in row v ≡ never
cost_past [] v l = refl
cost_past (y ∷ row) zero l = absurd (omega arith)
cost_past (y ∷ row) (suc v) l = cost_past row v (omega arith)
