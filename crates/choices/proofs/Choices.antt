-- Laws of choices: what fits has the ring's length, and what the tests of a rule tell.
use Rattle.std.proofs.Common.{◌≡◌, ℕ, zero, suc, ◌+◌, ◌*◌, ◌≤◌, true, false, List, [], ◌∷◌, length, get_or, refl, add-mul, arith}
use Rattle.std.proofs.lemmas.Bool.{and_parts, and_from, leb-true, le-leb, eqb-true, eq-eqb}
use Rattle.choices.specs.Choice.{Choice, weight_of, opened, none_empty, keeps_old, fits}
use Rattle.choices.specs.Stand.{Stand, by_rule, Allowed}
use Rattle.choices.specs.declared.rule.Rule.{Rule}

-- what a choice that fits has, as facts
pub record Fitting (r : Rule) (ws as' : List ℕ) (cs : Choice) : Type 0 where
  pub whole : length cs ≡ length ws
  pub enough : r.target ≤ weight_of ws cs
  pub within : weight_of ws cs ≤ r.target + r.above
  pub few : opened cs ≤ r.pans
  pub filled : none_empty ws cs ≡ true
  pub old_opened : keeps_old r.age as' cs ≡ true

pub fitting : (r : Rule) (ws as' : List ℕ) (cs : Choice) → fits r ws as' cs ≡ true → Fitting r ws as' cs
unfolding fits
fitting r ws as' cs h =
    let a = and_parts _ _ h in
    let b = and_parts _ _ a.1 in
    let d = and_parts _ _ b.1 in
    let e = and_parts _ _ d.1 in
    let f = and_parts _ _ e.1 in
    record {
      whole = eqb-true _ _ a.0;
      enough = leb-true _ _ b.0;
      within = leb-true _ _ d.0;
      few = leb-true _ _ e.0;
      filled = f.0;
      old_opened = f.1;
    }

pub fits_from : (r : Rule) (ws as' : List ℕ) (cs : Choice) → Fitting r ws as' cs → fits r ws as' cs ≡ true
unfolding fits
fits_from r ws as' cs h =
    and_from _ _ (eq-eqb _ _ h.whole) (and_from _ _ (le-leb _ _ h.enough) (and_from _ _ (le-leb _ _ h.within) (and_from _ _ (le-leb _ _ h.few) (and_from _ _ h.filled h.old_opened))))

pub opened_le : (cs : Choice) → opened cs ≤ length cs
opened_le [] = omega arith
opened_le (true ∷ cs) = omega (arith, opened_le cs)
opened_le (false ∷ cs) = omega (arith, opened_le cs)

-- no choice weighs more than as many of the heaviest
pub weight_le : (m : ℕ) (ws : List ℕ) (cs : Choice) → ((i : ℕ) → get_or ws i 0 ≤ m) → weight_of ws cs ≤ opened cs * m
weight_le m [] cs heavy = omega arith
weight_le m (w ∷ ws) [] heavy = omega arith
weight_le m (w ∷ ws) (true ∷ cs) heavy = omega (arith, heavy 0, weight_le m ws cs (λ i. heavy (suc i)), add-mul 1 (opened cs) m)
weight_le m (w ∷ ws) (false ∷ cs) heavy = omega (arith, weight_le m ws cs (λ i. heavy (suc i)), add-mul 0 (opened cs) m)

-- what opens no pan weighs nothing, so what weighs something opens one
pub weighs_none : (ws : List ℕ) (cs : Choice) → opened cs ≡ 0 → weight_of ws cs ≡ 0
weighs_none [] cs none = refl
weighs_none (w ∷ ws) [] none = refl
weighs_none (w ∷ ws) (true ∷ cs) none = absurd (omega arith)
weighs_none (w ∷ ws) (false ∷ cs) none = omega (arith, weighs_none ws cs (omega arith))

pub opens_some : (ws : List ℕ) (cs : Choice) → 1 ≤ weight_of ws cs → 1 ≤ opened cs
opens_some ws cs some = at (opened cs) refl
  where
    at : (n : ℕ) → opened cs ≡ n → 1 ≤ n
    at zero none = absurd (omega (arith, weighs_none ws cs none))
    at (suc n) e = omega arith

-- what fits a rule opens no empty pan and every old one, and is not too heavy
pub fits_allowed : (r : Rule) (s : Stand) (cs : Choice) → by_rule r s cs ≡ true → Allowed r.age r.target (r.target + r.above) s cs
fits_allowed r s cs h =
    let f = fitting r s.weights s.ages cs h in record { whole = f.whole; filled = f.filled; old = f.old_opened; enough = f.enough; within = f.within }

-- where something is wanted, what fits opens a pan
pub fits_opens : (r : Rule) (s : Stand) (cs : Choice) → 1 ≤ r.target → by_rule r s cs ≡ true → 1 ≤ opened cs
fits_opens r s cs some h = opens_some s.weights cs (omega (arith, (fitting r s.weights s.ages cs h).enough))
