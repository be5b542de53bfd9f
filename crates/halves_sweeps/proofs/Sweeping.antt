-- What several sweeps find together: pair by pair, count by count, top by top and weight by weight.
use Rattle.std.proofs.Common.{◌≡◌, ℕ, ◌+◌, ◌-◌, ◌*◌, ◌/◌, ◌^◌, ◌<◌, ◌≤◌, min, ◌⊎◌, List, length, get_or, inl, inr, ⊎_elim, arith}
use Rattle.std.proofs.lemmas.Bool.{cases_lt}
use Rattle.halves_places.specs.Place.{pans_in}
use Rattle.halves_sweeps.specs.Sweep.{Any, Apart, Few, LeastOf, LeastSum, Meets, Pair, Together, Triple, Whatever}
use Rattle.halves_sweeps.specs.Lane.{Fresh, Strode}
use Rattle.halves_sweeps.specs.declared.lane.Lane.{Lane}

-- the entries of the back list before i, and those of the front list from j on, are settled
pub record Sweeping (ok : ℕ → ℕ → Type 0) (fs bs : List ℕ) (from to i j x : ℕ) : Type 0 where
  pub within : j ≤ length fs
  pub high : x ≤ to
  pub passed : (p q : ℕ) → p < length fs → q < length bs → (q < i) ⊎ (j ≤ p) → ok (get_or bs q 0) (get_or fs p 0) → from ≤ get_or fs p 0 + get_or bs q 0 → x ≤ get_or fs p 0 + get_or bs q 0
  pub found : x < to → Pair ok fs bs from x

-- a sweep for some pairs, and one for the other pairs below what the first found
pub least_more :
    (one two ok : ℕ → ℕ → Type 0) (fs bs : List ℕ) (from to x y : ℕ) → LeastSum one fs bs from to x → LeastSum two fs bs from x y →
    ((a b : ℕ) → ok a b → one a b ⊎ two a b) → ((a b : ℕ) → one a b → ok a b) → ((a b : ℕ) → two a b → ok a b) → LeastSum ok fs bs from to y
least_more one two ok fs bs from to x y h k either first second =
    record {
      high = omega (arith, h.high, k.high);
      least = λ p q a b o l. ⊎_elim (λ z. omega (arith, h.least p q a b z l, k.high)) (λ z. k.least p q a b z l) (either _ _ o);
      found = λ l. ⊎_elim (λ z. pair second (k.found z)) (λ z. let e : x ≡ y = omega (arith, k.high) in rw e at (pair first (h.found (omega (arith, k.high))))) (cases_lt y x);
    }
  where
    pair : {some : ℕ → ℕ → Type 0} {z : ℕ} → ((a b : ℕ) → some a b → ok a b) → Pair some fs bs from z → Pair ok fs bs from z
    pair f g = record { p = g.p; q = g.q; front = g.front; back = g.back; right = f _ _ g.right; enough = g.enough; adds = g.adds }

-- the same with one count more
pub counted_more :
    (limit k : ℕ) (fs bs : List ℕ) (from to x y : ℕ) → k ≤ limit →
    LeastSum (λ a b. (pans_in a < k) × Few limit a b) fs bs from to x → LeastSum (Meets (record { count = k; rest = limit - k })) fs bs from x y →
    LeastSum (λ a b. (pans_in a < k + 1) × Few limit a b) fs bs from to y
counted_more limit k fs bs from to x y h a b =
    least_more _ _ _ fs bs from to x y a b
    (λ u v o. ⊎_elim (λ z. inl (z, o.1)) (λ z. inr (omega (arith, o.0), omega (arith, o.1))) (cases_lt (pans_in u) k))
    (λ u v o. (omega (arith, o.0), o.1))
    (λ u v o. (omega (arith, o.0), omega (arith, o.0, o.1)))

-- what a sweep beside a top found, with the top
pub least_fresh :
    (fs bs : List ℕ) (top front from to : ℕ) (x y : Lane) (k r : ℕ) → Fresh top front from to x → Strode fs bs x y k → LeastSum Any fs bs y.from y.to r →
    LeastSum Any fs bs (from - top) (to - top) r
least_fresh fs bs top front from to x y k r is h l = rw (h.from, h.to, is) at l

-- the same with one top more, whose sums were looked for below z
pub least_top :
    (ok : ℕ → ℕ → ℕ → Type 0) (k : ℕ) (ts fs bs : List ℕ) (from to x z y : ℕ) → LeastOf ok k ts fs bs from to x → x ≤ z →
    LeastSum (ok (get_or ts k 0)) fs bs (from - get_or ts k 0) (z - get_or ts k 0) y → LeastOf ok (k + 1) ts fs bs from to (min x (y + get_or ts k 0))
least_top ok k ts fs bs from to x z y h under g =
    record {
      high = omega (arith, h.high);
      least = λ t p q a b c o l. ⊎_elim (λ m. omega (arith, h.least t p q m b c o l)) (λ m. last t p q (omega arith) b c o l) (cases_lt t k);
      found = λ l. ⊎_elim (λ m. fresh (omega arith) (omega arith)) (λ m. let e : min x (y + get_or ts k 0) ≡ x = omega arith in rw e (old (h.found (omega arith)))) (cases_lt (y + get_or ts k 0) x);
    }
  where
    last : (t p q : ℕ) → t ≡ k → p < length fs → q < length bs → ok (get_or ts t 0) (get_or bs q 0) (get_or fs p 0) → from ≤ get_or ts t 0 + (get_or fs p 0 + get_or bs q 0) → min x (y + get_or ts k 0) ≤ get_or ts t 0 + (get_or fs p 0 + get_or bs q 0)
    last t p q e b c o l =
        let o' : ok (get_or ts k 0) (get_or bs q 0) (get_or fs p 0) = rw e at o in
        let l' : from ≤ get_or ts k 0 + (get_or fs p 0 + get_or bs q 0) = rw e at l in
        rw e (omega (arith, g.least p q b c o' (omega arith)))

    old : {v : ℕ} → Triple ok k ts fs bs from v → Triple ok (k + 1) ts fs bs from v
    old v = record { t = v.t; p = v.p; q = v.q; top = omega (arith, v.top); front = v.front; back = v.back; right = v.right; enough = v.enough; adds = v.adds }

    fresh : y + get_or ts k 0 < x → min x (y + get_or ts k 0) ≡ y + get_or ts k 0 → Triple ok (k + 1) ts fs bs from (min x (y + get_or ts k 0))
    fresh m e =
        let v : Pair (ok (get_or ts k 0)) fs bs (from - get_or ts k 0) y = g.found (omega arith) in
        rw e (record { t = k; p = v.p; q = v.q; top = omega arith; front = v.front; back = v.back; right = v.right; enough = omega (arith, v.enough); adds = omega (arith, v.adds) })

-- each sum within the limit from `from` on is `at` or more
pub record Passed (limit : ℕ) (ts fs bs : List ℕ) (from at : ℕ) : Type 0 where
  pub after : from ≤ at
  pub passed : (t p q : ℕ) → t < length ts → p < length fs → q < length bs → Together limit (get_or ts t 0) (get_or bs q 0) (get_or fs p 0) → from ≤ get_or ts t 0 + (get_or fs p 0 + get_or bs q 0) → at ≤ get_or ts t 0 + (get_or fs p 0 + get_or bs q 0)

module _ (limit : ℕ) (ts fs bs : List ℕ) (from at to x : ℕ) (apart : Apart ts fs bs) (h : Passed limit ts fs bs from at) (k : LeastOf Whatever (length ts) ts fs bs at to x) where
  -- the least sum of all opens the fewest pans of its weight
  pub passed_more : x < to → limit < pans_in x → Passed limit ts fs bs from ((x / 2 ^ 29 + 1) * 2 ^ 29)
  passed_more low many =
      record {
        after = omega (arith, h.after, (k.found low).enough);
        passed = λ t p q a b c few l.
            ⊎_elim (λ s. absurd (fewer (get_or ts t 0 + (get_or fs p 0 + get_or bs q 0)) s (k.least t p q a b c tt (h.passed t p q a b c few l)) (omega (arith, apart t p q a b c, few)))) (λ s. s)
            (cases_lt (get_or ts t 0 + (get_or fs p 0 + get_or bs q 0)) ((x / 2 ^ 29 + 1) * 2 ^ 29));
      }
    where
      fewer : (y : ℕ) → y < (x / 2 ^ 29 + 1) * 2 ^ 29 → x ≤ y → pans_in y ≤ limit → ⊥
      fewer y s l few = omega arith
