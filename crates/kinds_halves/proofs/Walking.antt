-- What a walk over two sorted lists keeps from turn to turn, and what it finds beside each top.
use Rattle.std.proofs.Common.{◌≡◌, ℕ, ◌+◌, ◌-◌, ◌<◌, ◌≤◌, Bool, true, false, List, length, get_or, ⊎_elim, refl, ap, arith, ◌*◌, ◌/◌, ◌%◌, ◌^◌, ◌∙◌, sym, add-mul}
use Rattle.std.proofs.Math.Nat.{mod-add-div', mul-mod_left}
use Rattle.std.proofs.lemmas.Bool.{both_ways, cases_eq, cases_lt}
use Rattle.halves_growth.specs.Entries.{Rises}
use Rattle.halves_sweeps.specs.Sweep.{Triple}
use Rattle.kinds_halves.specs.Passing.{Useless}
use Rattle.kinds_halves.specs.Walk.{Beside, FirstPassing, LeastPassing, Passing, Reached}

-- none of the back list's entries from `at` to q passes
pub record Passed (ok : ℕ → Bool) (top front : ℕ) (bs : List ℕ) (at q : ℕ) : Type 0 where
  pub later : at ≤ q
  pub none : (j : ℕ) → at ≤ j → j < q → ok (top + (front + get_or bs j 0)) ≡ false

module _ (ok : ℕ → Bool) (top front : ℕ) (bs : List ℕ) (rises : Rises bs (length bs)) (at q to : ℕ) (h : Passed ok top front bs at q) where
  passed : (j : ℕ) → at ≤ j → j < q → ok (top + (front + get_or bs j 0)) ≡ true → ⊥
  passed j a l e = both_ways (ok (top + (front + get_or bs j 0))) (h.none j a l) e

  -- a sum that is too large ends it, as no entry behind has a smaller one
  pub first_none : q < length bs → to ≤ top + (front + get_or bs q 0) → FirstPassing ok top front bs at to to
  first_none l high =
      record {
        high = omega arith;
        least = λ j a m e. ⊎_elim (λ b. absurd (passed j a b e)) (λ b. omega (arith, rises q j b m)) (cases_lt j q);
        found = λ b. absurd (omega arith);
      }

  pub first_end : length bs ≤ q → FirstPassing ok top front bs at to to
  first_end l =
      record {
        high = omega arith;
        least = λ j a m e. absurd (passed j a (omega arith) e);
        found = λ b. absurd (omega arith);
      }

  pub first_found : q < length bs → top + (front + get_or bs q 0) < to → ok (top + (front + get_or bs q 0)) ≡ true → FirstPassing ok top front bs at to (top + (front + get_or bs q 0))
  first_found l low e =
      record {
        high = omega arith;
        least = λ j a m f. ⊎_elim (λ b. absurd (passed j a b f)) (λ b. omega (arith, rises q j b m)) (cases_lt j q);
        found = λ b. (q, h.later, l, e, refl);
      }

  pub passed_more : q < length bs → ok (top + (front + get_or bs q 0)) ≡ false → Passed ok top front bs at (q + 1)
  passed_more l e =
      record {
        later = omega (arith, h.later);
        none = λ j a m. ⊎_elim (λ b. h.none j a b) (λ b. let same : j ≡ q = omega arith in rw same e) (cases_lt j q);
      }

-- where nothing can pass, whatever the entry of the back list, none does
pub first_useless :
    (ok : ℕ → Bool) (top front : ℕ) (bs : List ℕ) (free at to : ℕ) → ((q : ℕ) → q < length bs → get_or bs q 0 % 2 ^ 24 < 2 ^ free) → Useless ok (top + front) free → FirstPassing ok top front bs at to to
first_useless ok top front bs free at to shut h =
    record {
      high = omega arith;
      least = λ q a l e.
          let same : top + front + get_or bs q 0 ≡ top + (front + get_or bs q 0) = omega arith in
          absurd (both_ways (ok (top + (front + get_or bs q 0))) (rw same at (h (get_or bs q 0) (shut q l))) e);
      found = λ b. absurd (omega arith);
    }

-- a top and an entry of the front list that have no bit for the last pans have none together
pub clear_both : (x y free : ℕ) → x % 2 ^ free ≡ 0 → y % 2 ^ free ≡ 0 → (x + y) % 2 ^ free ≡ 0
clear_both x y free a b =
    let F = 2 ^ free in
    let e : (x / F + y / F) * F ≡ x + y = omega (arith, mod-add-div' x F, mod-add-div' y F, a, b, add-mul (x / F) (y / F) F) in
    ap (λ (k : ℕ). k % F) (sym e) ∙ mul-mod_left (x / F + y / F) F

-- the front list's entries from `left` on are settled, and beside the others the back list's before `at` are too small
pub record Stair (ok : ℕ → Bool) (top : ℕ) (fs bs : List ℕ) (from to left at x : ℕ) : Type 0 where
  pub front : left ≤ length fs
  pub behind : at ≤ length bs
  pub short : (p q : ℕ) → p < left → q < at → top + (get_or fs p 0 + get_or bs q 0) < from
  pub high : x ≤ to
  pub least : (p q : ℕ) → left ≤ p → p < length fs → q < length bs → ok (top + (get_or fs p 0 + get_or bs q 0)) ≡ true → from ≤ top + (get_or fs p 0 + get_or bs q 0) → x ≤ top + (get_or fs p 0 + get_or bs q 0)
  pub found : x < to → (p : ℕ) × (q : ℕ) × (p < length fs) × (q < length bs) × (ok x ≡ true) × (from ≤ x) × (top + (get_or fs p 0 + get_or bs q 0) ≡ x)

module _
    (ok : ℕ → Bool) (top : ℕ) (fs bs : List ℕ) (front_rises : Rises fs (length fs)) (back_rises : Rises bs (length bs)) (from to left at x at' x' : ℕ) (some : 0 < left) (h : Stair ok top fs bs from to left at x)
    (r : Reached top (get_or fs (left - 1) 0) bs at from at') (g : FirstPassing ok top (get_or fs (left - 1) 0) bs at' x x')
  where
    below : left - 1 < length fs
    below = omega (arith, h.front)

    too_small : (q : ℕ) → q < at' → top + (get_or fs (left - 1) 0 + get_or bs q 0) < from
    too_small q l = ⊎_elim (λ b. h.short (left - 1) q (omega arith) b) (λ b. r.short q b l) (cases_lt q at)

    pub stair_down : Stair ok top fs bs from to (left - 1) at' x'
    stair_down =
        record {
          front = omega arith;
          behind = r.within;
          short = λ i q l m. omega (arith, front_rises i (left - 1) (omega arith) below, too_small q m);
          high = omega (arith, g.high, h.high);
          least = λ i q l m b e f. ⊎_elim (λ same. here i q same b e f) (λ ne. omega (arith, g.high, h.least i q (omega arith) m b e f)) (cases_eq i (left - 1));
          found = λ l. ⊎_elim fresh (λ b. let same : x' ≡ x = omega (arith, g.high) in rw same (h.found (omega arith))) (cases_lt x' x);
        }
      where
        here : (i q : ℕ) → i ≡ left - 1 → q < length bs → ok (top + (get_or fs i 0 + get_or bs q 0)) ≡ true → from ≤ top + (get_or fs i 0 + get_or bs q 0) → x' ≤ top + (get_or fs i 0 + get_or bs q 0)
        here i q same b e f =
            let same' : get_or fs i 0 ≡ get_or fs (left - 1) 0 = ap (λ (j : ℕ). get_or fs j 0) same in
            rw same' (⊎_elim (λ c. absurd (omega (arith, too_small q c, same', f))) (λ c. g.least q c b (rw same' at e)) (cases_lt q at'))

        fresh : x' < x → (p : ℕ) × (q : ℕ) × (p < length fs) × (q < length bs) × (ok x' ≡ true) × (from ≤ x') × (top + (get_or fs p 0 + get_or bs q 0) ≡ x')
        fresh l =
            let f = g.found l in
            (left - 1, f.0, below, f.2, f.3, omega (arith, r.enough (omega (arith, f.1, f.2)), back_rises at' f.0 f.1 f.2, f.4), f.4)

pub stair_all : (ok : ℕ → Bool) (top : ℕ) (fs bs : List ℕ) (from to at x : ℕ) → Stair ok top fs bs from to 0 at x → Beside ok top fs bs from to x
stair_all ok top fs bs from to at x h = record { high = h.high; least = λ p q. h.least p q (omega arith); found = h.found }

-- the same with one top more, whose sums were looked for below x
pub least_top :
    (ok : ℕ → Bool) (k : ℕ) (ts fs bs : List ℕ) (from to x y : ℕ) → LeastPassing ok k ts fs bs from to x → Beside ok (get_or ts k 0) fs bs from x y → LeastPassing ok (k + 1) ts fs bs from to y
least_top ok k ts fs bs from to x y h g =
    record {
      high = omega (arith, h.high, g.high);
      least = λ t p q a b c o l. ⊎_elim (λ m. omega (arith, g.high, h.least t p q m b c o l)) (λ m. last t p q (omega arith) b c o l) (cases_lt t k);
      found = λ l. ⊎_elim (λ m. fresh m) (λ m. let same : y ≡ x = omega (arith, g.high) in rw same (old (h.found (omega arith)))) (cases_lt y x);
    }
  where
    last : (t p q : ℕ) → t ≡ k → p < length fs → q < length bs → ok (get_or ts t 0 + (get_or fs p 0 + get_or bs q 0)) ≡ true → from ≤ get_or ts t 0 + (get_or fs p 0 + get_or bs q 0) → y ≤ get_or ts t 0 + (get_or fs p 0 + get_or bs q 0)
    last t p q same b c o l =
        let same' : get_or ts t 0 ≡ get_or ts k 0 = ap (λ (j : ℕ). get_or ts j 0) same in
        rw same' (g.least p q b c (rw same' at o) (rw same' at l))

    old : Triple (Passing ok) k ts fs bs from x → Triple (Passing ok) (k + 1) ts fs bs from x
    old v = record { t = v.t; p = v.p; q = v.q; top = omega (arith, v.top); front = v.front; back = v.back; right = v.right; enough = v.enough; adds = v.adds }

    fresh : y < x → Triple (Passing ok) (k + 1) ts fs bs from y
    fresh l =
        let f = g.found l in
        record { t = k; p = f.0; q = f.1; top = omega arith; front = f.2; back = f.3; right = rw f.6 f.4; enough = f.5; adds = f.6 }
