-- What a sweep over two sorted lists keeps from step to step: the entries that it has passed are settled.
use Rattle.std.proofs.Common.{◌≡◌, ℕ, ◌+◌, ◌-◌, ◌<◌, ◌≤◌, min, ◌⊎◌, List, length, get_or, set, refl, ◌∙◌, inl, inr, ⊎_elim, arith}
use Rattle.std.proofs.lemmas.List.{get_or_default, get_or-set_same, get_or-set_other, length-set}
use Rattle.std.proofs.lemmas.Bool.{cases_lt, cases_eq}
use Rattle.halves_growth.specs.Entries.{Rises}
use Rattle.halves_sweeps.specs.Sweep.{Any, Pair}
use Rattle.halves_sweeps.specs.Lane.{Strides, Strode, Swept}
use Rattle.halves_sweeps.specs.declared.lane.Lane.{Lane}

-- one step, by whether the sum of the two entries is large enough
module _ (fs bs : List ℕ) (front_rises : Rises fs (length fs)) (back_rises : Rises bs (length bs)) (x : Lane) (h : Swept fs bs x) (behind : x.at < length bs) (front : 0 < x.left) (sum : ℕ) (is : sum ≡ get_or bs x.at 0 + get_or fs (x.left - 1) 0) where
  light : (p q : ℕ) → q ≡ x.at → p < x.left → get_or fs p 0 + get_or bs q 0 ≤ sum
  light p q e l = rw e (omega (arith, front_rises p (x.left - 1) (omega arith) (omega (arith, h.front))))

  heavy : (p q : ℕ) → p ≡ x.left - 1 → x.at ≤ q → q < length bs → sum ≤ get_or fs p 0 + get_or bs q 0
  heavy p q e a l = rw e (omega (arith, back_rises x.at q a l))

  pub strode_short : sum < x.from → Strode fs bs x (record { from = x.from; to = x.to; at = x.at + 1; left = x.left; found = x.found }) 1
  strode_short few =
      record {
        from = refl;
        to = refl;
        up = omega arith;
        down = omega arith;
        steps = omega arith;
        swept = record {
          behind = omega arith;
          front = h.front;
          high = h.high;
          passed = λ p q a b o l. ⊎_elim (λ e. absurd (omega (arith, light p q e.0 e.1))) (λ e. h.passed p q a b e l) (sides p q o);
          found = h.found;
        };
      }
    where
      sides : (p q : ℕ) → (q < x.at + 1) ⊎ (x.left ≤ p) → ((q ≡ x.at) × (p < x.left)) ⊎ ((q < x.at) ⊎ (x.left ≤ p))
      sides p q (inr o) = inr (inr o)
      sides p q (inl o) = ⊎_elim (λ e. ⊎_elim (λ k. inl (e, k)) (λ k. inr (inr k)) (cases_lt p x.left)) (λ e. inr (inl (omega arith))) (cases_eq q x.at)

  pub strode_enough : (f : ℕ) → x.from ≤ sum → f ≡ min x.found sum → Strode fs bs x (record { from = x.from; to = x.to; at = x.at; left = x.left - 1; found = f }) 1
  strode_enough f enough e =
      record {
        from = refl;
        to = refl;
        up = omega arith;
        down = omega arith;
        steps = omega arith;
        swept = record {
          behind = h.behind;
          front = omega (arith, h.front);
          high = omega (arith, h.high);
          passed = λ p q a b o l. ⊎_elim (λ k. omega (arith, heavy p q k.0 k.1 b)) (λ k. omega (arith, h.passed p q a b k l)) (sides p q o);
          found = λ l. ⊎_elim (λ k. let d : f ≡ x.found = omega arith in rw d (h.found (omega arith))) (λ k. fresh (omega arith)) (cases_lt x.found sum);
        };
      }
    where
      sides : (p q : ℕ) → (q < x.at) ⊎ (x.left - 1 ≤ p) → ((p ≡ x.left - 1) × (x.at ≤ q)) ⊎ ((q < x.at) ⊎ (x.left ≤ p))
      sides p q (inl o) = inr (inl o)
      sides p q (inr o) = ⊎_elim (λ k. inr (inl k)) (λ k. ⊎_elim (λ d. inl (d, k)) (λ d. inr (inr (omega arith))) (cases_eq p (x.left - 1))) (cases_lt q x.at)

      fresh : f ≡ sum → Pair Any fs bs x.from f
      fresh d = record { p = x.left - 1; q = x.at; front = omega (arith, h.front); back = behind; right = tt; enough = omega arith; adds = omega arith }

  -- the step as the code works it out: the index of the back list moves by k
  pub strode_one :
      (k f : ℕ) → ((k ≡ 1) × (sum < x.from)) ⊎ ((k ≡ 0) × (x.from ≤ sum)) → (sum < x.from → f ≡ x.found) → (x.from ≤ sum → f ≡ min x.found sum) →
      Strode fs bs x (record { from = x.from; to = x.to; at = x.at + k; left = x.left - 1 + k; found = f }) 1
  strode_one k f (inl (one, l)) short enough =
      let e : f ≡ x.found = short l in
      let d : x.left - 1 + k ≡ x.left = omega arith in
      rw (d, one, e) (strode_short l)
  strode_one k f (inr (none, l)) short enough =
      let a : x.at + k ≡ x.at = omega arith in
      let d : x.left - 1 + k ≡ x.left - 1 = omega arith in
      rw (a, d) (strode_enough f l (enough l))

pub strode_more : (fs bs : List ℕ) (x y z : Lane) (k m : ℕ) → Strode fs bs x y k → Strode fs bs y z m → Strode fs bs x z (k + m)
strode_more fs bs x y z k m h g =
    record {
      from = g.from ∙ h.from;
      to = g.to ∙ h.to;
      up = omega (arith, h.up, g.up);
      down = omega (arith, h.down, g.down);
      steps = omega (arith, h.steps, g.steps);
      swept = g.swept;
    }

-- the same of four sweeps
pub strides_more : (fs bs : List ℕ) (xs ys zs : List Lane) (k m : ℕ) → Strides fs bs xs ys k → Strides fs bs ys zs m → Strides fs bs xs zs (k + m)
strides_more fs bs xs ys zs k m h g = record { long = g.long; each = λ i d l. strode_more _ _ _ _ _ _ _ (h.each i d l) (g.each i d l) }

-- how many steps the first of them can still take at most: each step makes it less
abbrev pub ahead : List ℕ → List Lane → ℕ
ahead bs xs = let x : Lane = get_or xs 0 (record { from = 0; to = 0; at = 0; left = 0; found = 0 }) in (length bs - x.at) + x.left

-- within a turn the first n sweeps have taken one step more
pub record Turning (fs bs : List ℕ) (xs ys : List Lane) (k n : ℕ) : Type 0 where
  pub long : length ys ≡ 4
  pub turned : (i : ℕ) (d : Lane) → i < n → i < 4 → Strode fs bs (get_or xs i d) (get_or ys i d) (k + 1)
  pub others : (i : ℕ) (d : Lane) → n ≤ i → i < 4 → Strode fs bs (get_or xs i d) (get_or ys i d) k

pub turning_more : (fs bs : List ℕ) (xs ys : List Lane) (k n : ℕ) (e y : Lane) → n < 4 → Turning fs bs xs ys k n → Strode fs bs (get_or ys n e) y 1 → Turning fs bs xs (set ys n y) k (n + 1)
turning_more fs bs xs ys k n e y few h step =
    record {
      long = length-set ys n y ∙ h.long;
      turned = λ i d a l. ⊎_elim (λ z. rw z (here d)) (λ z. rw (get_or-set_other ys n i y d z) (h.turned i d (omega arith) l)) (cases_eq i n);
      others = λ i d a l. rw (get_or-set_other ys n i y d (omega arith)) (h.others i d (omega arith) l);
    }
  where
    here : (d : Lane) → Strode fs bs (get_or xs n d) (get_or (set ys n y) n d) (k + 1)
    here d = rw (get_or-set_same ys n y d (omega (arith, h.long))) (strode_more _ _ _ _ _ _ _ (h.others n d (omega arith) few) (rw (get_or_default ys n e d (omega (arith, h.long))) at step))
