-- A row is laid over another, cost by cost: the least sums so far.
use Rattle.std.proofs.Common.{◌≡◌, ℕ, ◌+◌, ◌-◌, ◌*◌, ◌/◌, ◌<◌, ◌≤◌, min, ◌⊎◌, List, length, get_or, inl, inr, ◌∙◌, arith}
use Rattle.std.proofs.lemmas.Bool.{cases_lt}
use Rattle.kinds_table.specs.Costs.{never}
use Rattle.kinds_table.specs.Rows.{Capped, cost_in, row_at}
use Rattle.kinds_table.proofs.Sums.{SumSoFar, more_so_far, same_so_far, cost_at}

pub record Laying (row initial : List ℕ) (from at span n : ℕ) (sums : List ℕ) : Type 0 where
  pub same : (j : ℕ) → (j < at) ⊎ (at + span + 16 ≤ j) → get_or sums j 0 ≡ get_or initial j 0
  pub capped : Capped sums
  pub least : (x : ℕ) → x ≤ span → SumSoFar n (cost_in row) (row_at initial from) x (row_at sums at x)

-- no cost at all adds nothing
pub laying_none : {row initial : List ℕ} {from at span n : ℕ} {sums : List ℕ} → n < length row → never ≤ get_or row n 0 → Laying row initial from at span n sums → Laying row initial from at span (n + 1) sums
laying_none {row} {initial} {from} {at} {span} {n} {sums} in' none h =
    record {
      same = h.same;
      capped = h.capped;
      least = λ x low. same_so_far n (cost_in row) (row_at initial from) x (row_at sums at x) (h.least x low) (λ _. omega (arith, cost_at row n in'));
    }

-- the other row is laid over, n further on
pub laying_more :
    {row initial : List ℕ} {from at span n : ℕ} {sums sums' : List ℕ} → n < length row → n ≤ span → from + span + 16 ≤ at → Capped initial → Laying row initial from at span n sums →
    ((j : ℕ) → (j < at + n) ⊎ (at + n + 16 * ((span - n) / 16 + 1) ≤ j) → get_or sums' j 0 ≡ get_or sums j 0) →
    ((x : ℕ) → x < 16 * ((span - n) / 16 + 1) → get_or sums' (at + n + x) 0 ≡ min (get_or sums (at + n + x) 0) (get_or sums (from + x) 0 + get_or row n 0)) →
    Laying row initial from at span (n + 1) sums'
laying_more {row} {initial} {from} {at} {span} {n} {sums} {sums'} in' within room low h same made =
    record {
      same = old;
      capped = λ j. capped j (cases_lt j (at + n)) (cases_lt j (at + n + 16 * ((span - n) / 16 + 1)));
      least = λ x l. least x l (cases_lt x n);
    }
  where
    old : (j : ℕ) → (j < at) ⊎ (at + span + 16 ≤ j) → get_or sums' j 0 ≡ get_or initial j 0
    old j (inl l) = same j (inl (omega arith)) ∙ h.same j (inl l)
    old j (inr l) = same j (inr (omega arith)) ∙ h.same j (inr l)

    capped : (j : ℕ) → (j < at + n) ⊎ (at + n ≤ j) → (j < at + n + 16 * ((span - n) / 16 + 1)) ⊎ (at + n + 16 * ((span - n) / 16 + 1) ≤ j) → get_or sums' j 0 ≤ never
    capped j (inl l) m = rw (same j (inl l)) (h.capped j)
    capped j (inr l) (inr m) = rw (same j (inr m)) (h.capped j)
    capped j (inr l) (inl m) =
        let e : at + n + (j - (at + n)) ≡ j = omega arith in
        let f = rw e at (made (j - (at + n)) (omega arith)) in
        omega (arith, f, h.capped j)

    least : (x : ℕ) → x ≤ span → (x < n) ⊎ (n ≤ x) → SumSoFar (n + 1) (cost_in row) (row_at initial from) x (row_at sums' at x)
    least x l (inl before) =
        let e : get_or sums' (at + x) 0 ≡ get_or sums (at + x) 0 = same (at + x) (inl (omega arith)) in
        rw e (same_so_far n (cost_in row) (row_at initial from) x (row_at sums at x) (h.least x l) (λ m. absurd (omega arith)))
    least x l (inr here) =
        let e : at + n + (x - n) ≡ at + x = omega arith in
        let f : get_or sums' (at + x) 0 ≡ min (get_or sums (at + x) 0) (get_or sums (from + (x - n)) 0 + get_or row n 0) = rw e at (made (x - n) (omega arith)) in
        let g : get_or sums (from + (x - n)) 0 ≡ get_or initial (from + (x - n)) 0 = h.same (from + (x - n)) (inl (omega arith)) in
        more_so_far n (cost_in row) (row_at initial from) x (row_at sums at x) (row_at sums' at x) (h.least x l) here (omega (arith, f, g, cost_at row n in'))
