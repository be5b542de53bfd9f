-- What each kind may weigh, by its own window and by those of all others.
use Rattle.std.proofs.Common.{◌≡◌, ℕ, zero, suc, ◌+◌, ◌-◌, ◌<◌, ◌≤◌, min, max, Bool, true, false, ◌&&◌, leb, ◌⊎◌, List, [], ◌∷◌, length, get_or, inl, inr, sym, refl, ◌∙◌, arith}
use Rattle.std.proofs.lemmas.Bool.{and_parts, and_from, cases_lt, leb-true, le-leb, lt-ltb}
use Rattle.choices.specs.Choice.{Choice, weight_of, fits}
use Rattle.choices.specs.declared.rule.Rule.{Rule}
use Rattle.choices.proofs.Choices.{fitting}
use Rattle.kinds.specs.Kinds.{weight_of_kind, in_windows, mixes}
use Rattle.kinds.specs.declared.mixed.Window.{Window}
use Rattle.kinds_table.specs.Costs.{on_kinds, below}
use Rattle.kinds_table.specs.Rows.{sum_below}
use Rattle.order.specs.Order.{NoneOf}
use Rattle.kinds_table.specs.Plans.{shut, Cut, Plans, wide_of}
use Rattle.kinds_table.specs.declared.plan.Plan.{Plan}
use Rattle.kinds_table.proofs.OnKinds.{on_next, on_none, on_all, on_is}

-- ---- sums of numbers of kinds, one no more than the other
pub sum_le : (f g : ℕ → ℕ) (n : ℕ) → ((k : ℕ) → k < n → f k ≤ g k) → sum_below f n ≤ sum_below g n
sum_le f g zero h = omega arith
sum_le f g (suc n) h = omega (arith, sum_le f g n (λ k l. h k (omega arith)), h n (omega arith))

pub sum_but : (f g : ℕ → ℕ) (n i : ℕ) → i < n → ((k : ℕ) → k < n → f k ≤ g k) → sum_below f n + g i ≤ sum_below g n + f i
sum_but f g zero i l h = absurd (omega arith)
sum_but f g (suc n) i l h =
    elim (cases_lt i n) [
      | inl m ↦ omega (arith, sum_but f g n i m (λ k b. h k (omega arith)), h n (omega arith))
      | inr m ↦ let e : i ≡ n = omega arith in rw e (omega (arith, sum_le f g n (λ k b. h k (omega arith))))
    ]

pub sum_at : (f : ℕ → ℕ) (n i : ℕ) → i < n → f i ≤ sum_below f n
sum_at f zero i l = absurd (omega arith)
sum_at f (suc n) i l =
    elim (cases_lt i n) [
      | inl m ↦ omega (arith, sum_at f n i m)
      | inr m ↦ let e : i ≡ n = omega arith in rw e (omega arith)
    ]

-- ---- the windows as facts
pub in_windows_at :
    (k : ℕ) (vs : List Window) (ks ws : List ℕ) (cs : Choice) → in_windows k vs ks ws cs ≡ true → (i : ℕ) → i < length vs →
    ((get_or vs i shut).least ≤ weight_of_kind (k + i) ks ws cs) × (weight_of_kind (k + i) ks ws cs ≤ (get_or vs i shut).most)
in_windows_at k [] ks ws cs h i l = absurd (omega arith)
in_windows_at k (v ∷ vs) ks ws cs h zero l =
    let e : k + 0 ≡ k = omega arith in
    let w = weight_of_kind k ks ws cs in
    let a = and_parts (leb v.least w && leb w v.most) (in_windows (k + 1) vs ks ws cs) h in
    let b = and_parts (leb v.least w) (leb w v.most) a.0 in
    rw e (leb-true v.least w b.0, leb-true w v.most b.1)
in_windows_at k (v ∷ vs) ks ws cs h (suc i) l =
    let e : k + suc i ≡ k + 1 + i = omega arith in
    let w = weight_of_kind k ks ws cs in
    let a = and_parts (leb v.least w && leb w v.most) (in_windows (k + 1) vs ks ws cs) h in
    rw e (in_windows_at (k + 1) vs ks ws cs a.1 i (omega arith))

pub in_windows_from :
    (k : ℕ) (vs : List Window) (ks ws : List ℕ) (cs : Choice) →
    ((i : ℕ) → i < length vs → ((get_or vs i shut).least ≤ weight_of_kind (k + i) ks ws cs) × (weight_of_kind (k + i) ks ws cs ≤ (get_or vs i shut).most)) →
    in_windows k vs ks ws cs ≡ true
in_windows_from k [] ks ws cs h = refl
in_windows_from k (v ∷ vs) ks ws cs h =
    let e : k + 0 ≡ k = omega arith in
    let w = weight_of_kind k ks ws cs in
    let a : (v.least ≤ w) × (w ≤ v.most) = rw e at (h 0 (omega arith)) in
    and_from (leb v.least w && leb w v.most) (in_windows (k + 1) vs ks ws cs) (and_from (leb v.least w) (leb w v.most) (le-leb v.least w a.0) (le-leb w v.most a.1))
    (in_windows_from (k + 1) vs ks ws cs (λ i l. let f : k + suc i ≡ k + 1 + i = omega arith in rw f at (h (suc i) (omega arith))))

-- ---- a choice weighs what its kinds weigh
pub kinds_weigh : (k : ℕ) (ks ws : List ℕ) (cs : Choice) → sum_below (λ (j : ℕ). weight_of_kind j ks ws cs) k ≡ on_kinds (below k) ks ws cs
kinds_weigh zero ks ws cs = sym (on_none ks ws cs)
kinds_weigh (suc k) ks ws cs = omega (arith, kinds_weigh k ks ws cs, on_next k ks ws cs, on_is k ks ws cs)

module _ (r : Rule) (vs : List Window) (ks ws as' : List ℕ) (paired : length ks ≡ length ws) (known : (i : ℕ) → get_or ks i 0 < length vs) (cs : Choice) (h : mixes r vs ks ws as' cs ≡ true) where
  mixed : (fits r ws as' cs ≡ true) × (in_windows 0 vs ks ws cs ≡ true)
  mixed = and_parts (fits r ws as' cs) (in_windows 0 vs ks ws cs) h

  window : (k : ℕ) → k < length vs → ((get_or vs k shut).least ≤ weight_of_kind k ks ws cs) × (weight_of_kind k ks ws cs ≤ (get_or vs k shut).most)
  window k l = let e : 0 + k ≡ k = omega arith in rw e at (in_windows_at 0 vs ks ws cs mixed.1 k l)

  pub whole_weight : sum_below (λ (j : ℕ). weight_of_kind j ks ws cs) (length vs) ≡ weight_of ws cs
  whole_weight = kinds_weigh (length vs) ks ws cs ∙ on_all (below (length vs)) ks ws cs paired (λ i l. lt-ltb (get_or ks i 0) (length vs) (known i))

  -- no kind weighs less than what the most of all others leaves of the target, and none more than the least of all others of the top
  pub clip_least : (k : ℕ) → k < length vs → max (get_or vs k shut).least (r.target - (sum_below (λ (j : ℕ). (get_or vs j shut).most) (length vs) - (get_or vs k shut).most)) ≤ weight_of_kind k ks ws cs
  clip_least k l =
      let f = fitting r ws as' cs mixed.0 in
      omega (arith, f.enough, whole_weight, window k l, sum_but (λ (j : ℕ). weight_of_kind j ks ws cs) (λ (j : ℕ). (get_or vs j shut).most) (length vs) k l (λ j b. (window j b).1))

  pub clip_most : (k : ℕ) → k < length vs → weight_of_kind k ks ws cs ≤ min (get_or vs k shut).most (r.target + r.above - (sum_below (λ (j : ℕ). (get_or vs j shut).least) (length vs) - (get_or vs k shut).least))
  clip_most k l =
      let f = fitting r ws as' cs mixed.0 in
      omega (arith, f.within, whole_weight, window k l, sum_at (λ (j : ℕ). (get_or vs j shut).least) (length vs) k l, sum_but (λ (j : ℕ). (get_or vs j shut).least) (λ (j : ℕ). weight_of_kind j ks ws cs) (length vs) k l (λ j b. (window j b).0))

  -- the leasts of all kinds together are no more than the choice weighs
  pub clip_base : (least : ℕ → ℕ) → ((k : ℕ) → k < length vs → least k ≤ weight_of_kind k ks ws cs) → sum_below least (length vs) ≤ r.target + r.above
  clip_base least low =
      let f = fitting r ws as' cs mixed.0 in
      omega (arith, f.within, whole_weight, sum_le least (λ (j : ℕ). weight_of_kind j ks ws cs) (length vs) low)

-- ---- the plan
module _ (r : Rule) (vs : List Window) (ks ws as' : List ℕ) (paired : length ks ≡ length ws) (known : (i : ℕ) → get_or ks i 0 < length vs)
    (some : 1 ≤ length vs) (few : length vs ≤ 4) (low : r.target + r.above ≤ 50000000) (p : Plan) (kinds : p.kinds ≡ length vs) (span : p.base + p.span ≡ r.target + r.above)
    (wide : p.wide ≡ wide_of (r.target + r.above)) (base : p.base ≡ sum_below (λ (k : ℕ). get_or p.least k 0) p.kinds) (fine : (k : ℕ) → k < p.kinds → get_or p.least k 0 ≤ get_or p.most k 0)
    (cut : Cut r vs p.least p.most) where
  pub plans_of : Plans r vs ks ws as' p
  plans_of =
      record {
        laid = record {
          present = omega (arith, kinds, some);
          few = omega (arith, kinds, few);
          low = omega (arith, span, low);
          wide = rw span wide;
          base = base;
          some = λ k. in-order k (cases_lt k (length vs));
          top = λ k. top k (cases_lt k (length vs));
        };
        kinds = kinds;
        span = span;
        no_less = λ k l. omega (arith, cut.least k (omega (arith, kinds)));
        no_more = λ k l. omega (arith, cut.most k (omega (arith, kinds)));
        enough = λ cs h k l. omega (arith, cut.least k (omega (arith, kinds)), clip_least r vs ks ws as' paired known cs h k (omega (arith, kinds)));
        within = λ cs h k l. omega (arith, cut.most k (omega (arith, kinds)), clip_most r vs ks ws as' paired known cs h k (omega (arith, kinds)));
      }
    where
      in-order : (k : ℕ) → (k < length vs) ⊎ (length vs ≤ k) → get_or p.least k 0 ≤ get_or p.most k 0
      in-order k (inl l) = fine k (omega (arith, kinds))
      in-order k (inr l) = omega (arith, cut.no_least k l)

      top : (k : ℕ) → (k < length vs) ⊎ (length vs ≤ k) → get_or p.most k 0 ≤ p.base + p.span
      top k (inl l) = omega (arith, cut.most k l, span)
      top k (inr l) = omega (arith, cut.no_most k l)

module _ (r : Rule) (vs : List Window) (ks ws as' : List ℕ) (paired : length ks ≡ length ws) (known : (i : ℕ) → get_or ks i 0 < length vs) (f g : List ℕ) (cut : Cut r vs f g) where
  never_mixes : ((cs : Choice) → mixes r vs ks ws as' cs ≡ true → ⊥) → NoneOf (mixes r vs ks ws as')
  never_mixes h cs = at (mixes r vs ks ws as' cs) refl
    where
      at : (b : Bool) → mixes r vs ks ws as' cs ≡ b → b ≡ false
      at true e = absurd (h cs e)
      at false e = refl

  pub none_kind : (k : ℕ) → k < length vs → get_or g k 0 < get_or f k 0 → NoneOf (mixes r vs ks ws as')
  none_kind k l bad = never_mixes (λ cs h. omega (arith, cut.least k l, cut.most k l, clip_least r vs ks ws as' paired known cs h k l, clip_most r vs ks ws as' paired known cs h k l))

  pub none_base : r.target + r.above < sum_below (λ (j : ℕ). get_or f j 0) (length vs) → NoneOf (mixes r vs ks ws as')
  none_base bad = never_mixes (λ cs h. let b = clip_base r vs ks ws as' paired known cs h (λ (j : ℕ). get_or f j 0) (λ k l. omega (arith, cut.least k l, clip_least r vs ks ws as' paired known cs h k l)) in omega arith)
