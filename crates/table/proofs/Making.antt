-- One pan more in front of some pans: what the least count and the first choice are with it.
use Rattle.std.proofs.Common.{◌≡◌, ℕ, suc, ◌+◌, ◌-◌, ◌<◌, ◌≤◌, min, Bool, true, false, cond, ltb, leb, ◌⊎◌, List, [], ◌∷◌, length, refl, ap, inl, inr, arith}
use Rattle.std.proofs.lemmas.Bool.{and_parts, and_from, both_ways, cases_lt}
use Rattle.choices.specs.Choice.{Choice, weight_of, opened, none_empty, keeps_old}
use Rattle.order.specs.Order.{first_more}
use Rattle.table.specs.Pans.{old_weight_of, old_count_of, free_weight}
use Rattle.table.specs.Rows.{Makes, Least, First}

cond_le : (b : Bool) (w : ℕ) → cond b 0 w ≤ w
cond_le true w = omega arith
cond_le false w = omega arith

-- a choice that opens all old pans weighs at least what they weigh, and opens at least as many
pub old_weight_le :
    (old : ℕ) (ws as' : List ℕ) (cs : Choice) → length cs ≡ length ws → keeps_old old as' cs ≡ true → old_weight_of old ws as' ≤ weight_of ws cs
old_weight_le old [] as' cs e h = omega arith
old_weight_le old (w ∷ ws) [] cs e h = omega arith
old_weight_le old (w ∷ ws) (a ∷ as') [] e h = absurd (omega arith)
old_weight_le old (w ∷ ws) (a ∷ as') (true ∷ cs) e h = omega (arith, cond_le (ltb a old) w, old_weight_le old ws as' cs (omega arith) h)
old_weight_le old (w ∷ ws) (a ∷ as') (false ∷ cs) e h =
    let p = and_parts (ltb a old) (keeps_old old as' cs) h in
    rw p.0 (omega (arith, old_weight_le old ws as' cs (omega arith) p.1))

pub old_count_le : (old : ℕ) (as' : List ℕ) (cs : Choice) → length cs ≡ length as' → keeps_old old as' cs ≡ true → old_count_of old as' ≤ opened cs
old_count_le old [] cs e h = omega arith
old_count_le old (a ∷ as') [] e h = absurd (omega arith)
old_count_le old (a ∷ as') (true ∷ cs) e h = omega (arith, one (ltb a old), old_count_le old as' cs (omega arith) h)
  where
    one : (b : Bool) → cond b 0 1 ≤ 1
    one true = omega arith
    one false = omega arith
old_count_le old (a ∷ as') (false ∷ cs) e h =
    let p = and_parts (ltb a old) (keeps_old old as' cs) h in rw p.0 (omega (arith, old_count_le old as' cs (omega arith) p.1))

pub weight_le : (old : ℕ) (ws as' : List ℕ) (cs : Choice) → length as' ≡ length ws → weight_of ws cs ≤ old_weight_of old ws as' + free_weight old ws as'
weight_le old [] as' cs e = omega arith
weight_le old (w ∷ ws) [] cs e = absurd (omega arith)
weight_le old (w ∷ ws) (a ∷ as') [] e = omega arith
weight_le old (w ∷ ws) (a ∷ as') (c ∷ cs) e = omega (arith, weight_le old ws as' cs (omega arith), split c (ltb a old))
  where
    split : (c b : Bool) → cond c w 0 ≤ cond b 0 w + cond b w 0
    split true true = omega arith
    split true false = omega arith
    split false b = omega arith

-- the first pan in a choice, and the choice of the other pans
pub data Taken (old w a : ℕ) (ws as' : List ℕ) (x : ℕ) : Choice → Type 0 where
  shut : {ds : Choice} → ltb a old ≡ true → Makes old ws as' x ds → Taken old w a ws as' x (false ∷ ds)
  old_pan : {ds : Choice} → ltb a old ≡ false → Makes old ws as' x ds → Taken old w a ws as' x (true ∷ ds)
  free : {ds : Choice} → ltb a old ≡ true → leb 1 w ≡ true → w ≤ x → Makes old ws as' (x - w) ds → Taken old w a ws as' x (true ∷ ds)

pub taken : {old w a : ℕ} {ws as' : List ℕ} {x : ℕ} (cs : Choice) → Makes old (w ∷ ws) (a ∷ as') x cs → Taken old w a ws as' x cs
taken [] m = absurd (omega (arith, m.whole))
taken {old} {w} {a} {ws} {as'} {x} (false ∷ cs) m =
    let p = and_parts (ltb a old) (keeps_old old as' cs) m.old_opened in
    shut p.0 (record { whole = omega (arith, m.whole); filled = m.filled; old_opened = p.1; weighs = omega (arith, rw p.0 at m.weighs) })
taken {old} {w} {a} {ws} {as'} {x} (true ∷ cs) m = at (ltb a old) refl
  where
    filled : (leb 1 w ≡ true) × (none_empty ws cs ≡ true)
    filled = and_parts (leb 1 w) (none_empty ws cs) m.filled

    at : (b : Bool) → ltb a old ≡ b → Taken old w a ws as' x (true ∷ cs)
    at false e = old_pan e (record { whole = omega (arith, m.whole); filled = filled.1; old_opened = m.old_opened; weighs = omega (arith, rw e at m.weighs) })
    at true e =
        let eq : w + weight_of ws cs ≡ 0 + old_weight_of old ws as' + x = rw e at m.weighs in
        let low : w ≤ x = omega (arith, old_weight_le old ws as' cs (omega (arith, m.whole)) m.old_opened) in
        free e filled.0 low (record { whole = omega (arith, m.whole); filled = filled.1; old_opened = m.old_opened; weighs = omega arith })

-- the other way round
pub makes_shut :
    {old w a : ℕ} {ws as' : List ℕ} {x : ℕ} {ds : Choice} → ltb a old ≡ true → Makes old ws as' x ds → Makes old (w ∷ ws) (a ∷ as') x (false ∷ ds)
makes_shut e m = record { whole = ap suc m.whole; filled = m.filled; old_opened = and_from _ _ e m.old_opened; weighs = rw e (omega (arith, m.weighs)) }

pub makes_old :
    {old w a : ℕ} {ws as' : List ℕ} {x : ℕ} {ds : Choice} → ltb a old ≡ false → leb 1 w ≡ true → Makes old ws as' x ds → Makes old (w ∷ ws) (a ∷ as') x (true ∷ ds)
makes_old e f m = record { whole = ap suc m.whole; filled = and_from _ _ f m.filled; old_opened = m.old_opened; weighs = rw e (omega (arith, m.weighs)) }

pub makes_free :
    {old w a : ℕ} {ws as' : List ℕ} {x : ℕ} {ds : Choice} → ltb a old ≡ true → leb 1 w ≡ true → w ≤ x → Makes old ws as' (x - w) ds → Makes old (w ∷ ws) (a ∷ as') x (true ∷ ds)
makes_free e f low m = record { whole = ap suc m.whole; filled = and_from _ _ f m.filled; old_opened = m.old_opened; weighs = rw e (omega (arith, m.weighs)) }

-- ---- the least count, with one pan more in front

module _ {old w a : ℕ} {ws as' : List ℕ} {x k : ℕ} where
  pub least_old : ltb a old ≡ false → leb 1 w ≡ true → Least old ws as' x k → Least old (w ∷ ws) (a ∷ as') x k
  least_old e f h =
      record {
        low = λ cs m. low (taken cs m);
        some = λ less. let s = h.some less in (true ∷ s.0, makes_old e f s.1, rw e (omega (arith, s.2)));
      }
    where
      low : {cs : Choice} → Taken old w a ws as' x cs → old_count_of old (a ∷ as') + k ≤ opened cs
      low (shut g m) = absurd (both_ways _ e g)
      low (old_pan g m) = rw e (omega (arith, h.low _ m))
      low (free g l n m) = absurd (both_ways _ e g)

  -- the pan is empty, or too heavy
  pub least_barred : ltb a old ≡ true → (leb 1 w ≡ true → w ≤ x → ⊥) → Least old ws as' x k → Least old (w ∷ ws) (a ∷ as') x k
  least_barred e barred h =
      record {
        low = λ cs m. low (taken cs m);
        some = λ below. let s = h.some below in (false ∷ s.0, makes_shut e s.1, rw e (omega (arith, s.2)));
      }
    where
      low : {cs : Choice} → Taken old w a ws as' x cs → old_count_of old (a ∷ as') + k ≤ opened cs
      low (shut g m) = rw e (omega (arith, h.low _ m))
      low (old_pan g m) = absurd (both_ways _ g e)
      low (free g l n m) = absurd (barred l n)

  -- without the pan, or with it
  pub least_both :
      {k' : ℕ} → ltb a old ≡ true → leb 1 w ≡ true → w ≤ x → Least old ws as' x k → Least old ws as' (x - w) k' →
      Least old (w ∷ ws) (a ∷ as') x (min k (min (k' + 1) 255))
  least_both {k' = k'} e f heavy h h' = record { low = λ cs m. low (taken cs m); some = λ below. some below (cases_lt k (k' + 1)) }
    where
      low : {cs : Choice} → Taken old w a ws as' x cs → old_count_of old (a ∷ as') + min k (min (k' + 1) 255) ≤ opened cs
      low (shut g m) = rw e (omega (arith, h.low _ m))
      low (old_pan g m) = absurd (both_ways _ g e)
      low (free g l n m) = rw e (omega (arith, h'.low _ m))

      some :
          min k (min (k' + 1) 255) < 255 → (k < k' + 1) ⊎ (k' + 1 ≤ k) →
          (cs : Choice) × Makes old (w ∷ ws) (a ∷ as') x cs × (opened cs ≡ old_count_of old (a ∷ as') + min k (min (k' + 1) 255))
      some below (inl less) = let s = h.some (omega arith) in (false ∷ s.0, makes_shut e s.1, rw e (omega (arith, s.2)))
      some below (inr more) = let s = h'.some (omega arith) in (true ∷ s.0, makes_free e f heavy s.1, rw e (omega (arith, s.2)))

-- a count of 255 or more is written as 255
pub least_cap : {old : ℕ} {ws as' : List ℕ} {x k : ℕ} → Least old ws as' x k → Least old ws as' x (min k 255)
least_cap {k = k} h =
    record {
      low = λ cs m. omega (arith, h.low cs m);
      some = λ below. let s = h.some (omega arith) in (s.0, s.1, omega (arith, s.2));
    }

-- no choice weighs more than all free pans do
pub least_heavy : {old : ℕ} {ws as' : List ℕ} {x : ℕ} → length as' ≡ length ws → free_weight old ws as' < x → Least old ws as' x 255
least_heavy {old} {ws} {as'} paired heavy =
    record { low = λ cs m. absurd (omega (arith, m.weighs, weight_le old ws as' cs paired)); some = λ below. absurd (omega arith) }

-- there is one least count, if any
pub least_one : {old : ℕ} {ws as' : List ℕ} {x k m : ℕ} → Least old ws as' x k → Least old ws as' x m → m < 255 → k ≤ m
least_one h h' below = let s = h'.some below in omega (arith, s.2, h.low s.0 s.1)

-- no pan at all
pub least_nothing : {old : ℕ} → Least old [] [] 0 0
least_nothing = record { low = λ cs m. omega arith; some = λ below. ([], record { whole = refl; filled = refl; old_opened = refl; weighs = refl }, refl) }

pub least_never : {old : ℕ} (x : ℕ) → 1 ≤ x → Least old [] [] x 255
least_never x low = record { low = λ cs m. absurd (omega (arith, m.weighs)); some = λ below. absurd (omega arith) }

-- ---- the first choice, with one pan more in front

module _ {old w a : ℕ} {ws as' : List ℕ} {x : ℕ} {cs : Choice} where
  pub first_old : ltb a old ≡ false → leb 1 w ≡ true → First old ws as' x cs → First old (w ∷ ws) (a ∷ as') x (true ∷ cs)
  first_old e f h = record { makes = makes_old e f h.makes; fewest = λ ds m. fewest (taken ds m); first = λ ds m. first (taken ds m) }
    where
      fewest : {ds : Choice} → Taken old w a ws as' x ds → opened (true ∷ cs) ≤ opened ds
      fewest (shut g m) = absurd (both_ways _ e g)
      fewest (old_pan g m) = omega (arith, h.fewest _ m)
      fewest (free g l n m) = absurd (both_ways _ e g)

      first : {ds : Choice} → Taken old w a ws as' x ds → opened ds ≡ opened (true ∷ cs) → first_more ds (true ∷ cs) ≡ false
      first (shut g m) same = absurd (both_ways _ e g)
      first (old_pan g m) same = h.first _ m (omega arith)
      first (free g l n m) same = absurd (both_ways _ e g)

  -- the pan is opened where the rest then takes fewer pans
  pub first_open :
      {k k' : ℕ} → ltb a old ≡ true → leb 1 w ≡ true → w ≤ x → Least old (w ∷ ws) (a ∷ as') x k → k < 255 → Least old ws as' (x - w) k' → k' < k →
      First old ws as' (x - w) cs → First old (w ∷ ws) (a ∷ as') x (true ∷ cs)
  first_open {k} {k'} e f heavy whole below rest fewer h =
      record { makes = makes_free e f heavy h.makes; fewest = fewest; first = λ ds m. first (taken ds m) }
    where
      some : (es : Choice) × Makes old ws as' (x - w) es × (opened es ≡ old_count_of old as' + k')
      some = rest.some (omega arith)

      few : opened cs ≤ old_count_of old as' + k'
      few = omega (arith, some.2, h.fewest some.0 some.1)

      fewest : (ds : Choice) → Makes old (w ∷ ws) (a ∷ as') x ds → opened (true ∷ cs) ≤ opened ds
      fewest ds m = let low = rw e at (whole.low ds m) in omega (arith, low, few)

      first : {ds : Choice} → Taken old w a ws as' x ds → opened ds ≡ opened (true ∷ cs) → first_more ds (true ∷ cs) ≡ false
      first (shut g m) same = refl
      first (old_pan g m) same = absurd (both_ways _ g e)
      first (free g l n m) same = h.first _ m (omega arith)

-- what an old pan leaves to the others
pub least_old_rest : {old w a : ℕ} {ws as' : List ℕ} {x k : ℕ} → ltb a old ≡ false → leb 1 w ≡ true → Least old (w ∷ ws) (a ∷ as') x k → Least old ws as' x k
least_old_rest {old} {w} {a} {ws} {as'} {x} {k} e f h =
    record {
      low = λ cs m. let l = rw e at (h.low (true ∷ cs) (makes_old e f m)) in omega (arith, l);
      some = λ below. let s = h.some below in at (taken s.0 s.1) (rw e at s.2);
    }
  where
    at : {es : Choice} → Taken old w a ws as' x es → opened es ≡ 1 + old_count_of old as' + k → (ds : Choice) × Makes old ws as' x ds × (opened ds ≡ old_count_of old as' + k)
    at (shut g m) same = absurd (both_ways _ e g)
    at (old_pan {ds} g m) same = (ds, m, omega arith)
    at (free g l n m) same = absurd (both_ways _ e g)

-- where opening the pan takes more pans, a choice of the least count leaves it shut
pub shut_some :
    {old w a : ℕ} {ws as' : List ℕ} {x k : ℕ} → ltb a old ≡ true → Least old (w ∷ ws) (a ∷ as') x k → k < 255 →
    (leb 1 w ≡ true → w ≤ x → (ds : Choice) → Makes old ws as' (x - w) ds → old_count_of old as' + k ≤ opened ds) → (es : Choice) × Makes old ws as' x es × (opened es ≡ old_count_of old as' + k)
shut_some {old} {w} {a} {ws} {as'} {x} {k} e whole below barred = at (taken some.0 some.1) (rw e at some.2)
  where
    some : (es : Choice) × Makes old (w ∷ ws) (a ∷ as') x es × (opened es ≡ old_count_of old (a ∷ as') + k)
    some = whole.some below

    at : {es : Choice} → Taken old w a ws as' x es → opened es ≡ 0 + old_count_of old as' + k → (ds : Choice) × Makes old ws as' x ds × (opened ds ≡ old_count_of old as' + k)
    at (shut {ds} g m) same = (ds, m, omega arith)
    at (old_pan g m) same = absurd (both_ways _ g e)
    at (free g l n m) same = absurd (omega (arith, barred l n _ m))

pub least_shut :
    {old w a : ℕ} {ws as' : List ℕ} {x k : ℕ} → ltb a old ≡ true → Least old (w ∷ ws) (a ∷ as') x k → k < 255 →
    (leb 1 w ≡ true → w ≤ x → (ds : Choice) → Makes old ws as' (x - w) ds → old_count_of old as' + k ≤ opened ds) → Least old ws as' x k
least_shut e whole below barred =
    record {
      low = λ cs m. let l = rw e at (whole.low (false ∷ cs) (makes_shut e m)) in omega (arith, l);
      some = λ _. shut_some e whole below barred;
    }

pub first_shut :
    {old w a : ℕ} {ws as' : List ℕ} {x k : ℕ} {cs : Choice} → ltb a old ≡ true → Least old (w ∷ ws) (a ∷ as') x k → k < 255 →
    (leb 1 w ≡ true → w ≤ x → (ds : Choice) → Makes old ws as' (x - w) ds → old_count_of old as' + k ≤ opened ds) → First old ws as' x cs → First old (w ∷ ws) (a ∷ as') x (false ∷ cs)
first_shut {old} {w} {a} {ws} {as'} {x} {k} {cs} e whole below barred h =
    record { makes = makes_shut e h.makes; fewest = λ ds m. fewest (taken ds m); first = λ ds m. first (taken ds m) }
  where
    some : (es : Choice) × Makes old ws as' x es × (opened es ≡ old_count_of old as' + k)
    some = shut_some e whole below barred

    few : opened cs ≤ old_count_of old as' + k
    few = omega (arith, some.2, h.fewest some.0 some.1)

    fewest : {ds : Choice} → Taken old w a ws as' x ds → opened (false ∷ cs) ≤ opened ds
    fewest (shut g m) = omega (arith, h.fewest _ m)
    fewest (old_pan g m) = absurd (both_ways _ g e)
    fewest (free g l n m) = omega (arith, barred l n _ m, few)

    first : {ds : Choice} → Taken old w a ws as' x ds → opened ds ≡ opened (false ∷ cs) → first_more ds (false ∷ cs) ≡ false
    first (shut g m) same = h.first _ m (omega arith)
    first (old_pan g m) same = absurd (both_ways _ g e)
    first (free g l n m) same = absurd (omega (arith, barred l n _ m, few))

-- no pan at all
pub first_nothing : {old x k : ℕ} → Least old [] [] x k → k < 255 → First old [] [] x []
first_nothing h below =
    let s = h.some below in
    record {
      makes = record { whole = refl; filled = refl; old_opened = refl; weighs = omega (arith, s.1.weighs) };
      fewest = λ ds m. omega arith;
      first = λ ds m same. nil ds m.whole;
    }
  where
    nil : (ds : Choice) → length ds ≡ 0 → first_more ds [] ≡ false
    nil [] e = refl
    nil (d ∷ ds) e = refl
