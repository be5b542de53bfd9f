-- A row takes in one more pan, in front of those that it has.
use Rattle.std.proofs.Common.{◌≡◌, ℕ, suc, ◌+◌, ◌-◌, ◌^◌, ◌<◌, ◌≤◌, min, Bool, true, false, cond, ◌&&◌, ltb, leb, ◌⊎◌, List, [], ◌∷◌, length, inl, inr, refl, ap, ◌∙◌, arith}
use Rattle.std.proofs.lemmas.Bool.{and_parts, both_ways, cases_lt, leb-true, leb-false, le-leb}
use Rattle.std.proofs.lemmas.Bool.Decides.{nat_tests}
use Rattle.choices.specs.Choice.{Choice}
use Rattle.kinds_table.specs.Costs.{never, Lot, on_kinds, lawful, cost, Makes, Least}
use Rattle.kinds_table.specs.Rows.{back}

abbrev pub lot : ℕ → (ks ws as' : List ℕ) → Lot
lot old ks ws as' = record { old = old; kinds = ks; weights = ws; ages = as' }

-- no pan yet
nothing_on : (on : ℕ → Bool) (ks : List ℕ) (cs : Choice) → on_kinds on ks [] cs ≡ 0
nothing_on on [] cs = refl
nothing_on on (q ∷ ks) cs = refl

pub least_zero : (on : ℕ → Bool) (old : ℕ) (ks ws as' : List ℕ) → length ws ≡ 0 → Least (Makes on (lot old ks ws as') 0) (cost on (lot old ks ws as')) 0
least_zero on old ks [] as' e =
    record {
      cap = omega arith;
      low = λ cs h. omega arith;
      some = λ h. ([], record { whole = refl; does = law ks; weighs = nothing_on on ks [] }, nothing_on on ks []);
    }
  where
    law : (ks : List ℕ) → lawful on old ks [] as' [] ≡ true
    law [] = refl
    law (q ∷ ks) = refl
least_zero on old ks (w ∷ ws) as' e = absurd (omega arith)

pub least_never : (on : ℕ → Bool) (old : ℕ) (ks ws as' : List ℕ) (x : ℕ) → length ws ≡ 0 → 1 ≤ x → Least (Makes on (lot old ks ws as') x) (cost on (lot old ks ws as')) never
least_never on old ks [] as' x e some =
    record { cap = omega arith; low = λ cs h. absurd (omega (arith, h.weighs, nothing_on on ks cs)); some = λ h. absurd (omega arith) }
least_never on old ks (w ∷ ws) as' x e some = absurd (omega arith)

module _ (on : ℕ → Bool) (old q w a : ℕ) (ks ws as' : List ℕ) where
  -- the choices with the pan shut, and with it opened
  abbrev With : Bool → (x y : ℕ) → Type 0
  With c x y = Least (λ cs. Makes on (lot old (q ∷ ks) (w ∷ ws) (a ∷ as')) x (c ∷ cs)) (λ cs. cost on (lot old (q ∷ ks) (w ∷ ws) (a ∷ as')) (c ∷ cs)) y

  abbrev Before : (x y : ℕ) → Type 0
  Before x y = Least (Makes on (lot old ks ws as') x) (cost on (lot old ks ws as')) y

  abbrev After : (x y : ℕ) → Type 0
  After x y = Least (Makes on (lot old (q ∷ ks) (w ∷ ws) (a ∷ as')) x) (cost on (lot old (q ∷ ks) (w ∷ ws) (a ∷ as'))) y

  pub both : (x s o : ℕ) → With false x s → With true x o → After x (min s o)
  both x s o h k = record { cap = omega (arith, h.cap); low = low; some = λ l. some l (cases_lt s o) }
    where
      low : (cs : Choice) → Makes on (lot old (q ∷ ks) (w ∷ ws) (a ∷ as')) x cs → min s o ≤ cost on (lot old (q ∷ ks) (w ∷ ws) (a ∷ as')) cs
      low [] m = absurd (omega (arith, m.whole))
      low (true ∷ cs) m = let g = k.low cs m in omega arith
      low (false ∷ cs) m = let g = h.low cs m in omega arith

      some : min s o < never → (s < o) ⊎ (o ≤ s) → (cs : Choice) × Makes on (lot old (q ∷ ks) (w ∷ ws) (a ∷ as')) x cs × (cost on (lot old (q ∷ ks) (w ∷ ws) (a ∷ as')) cs ≡ min s o)
      some l (inl b) = let g = h.some (omega arith) in (false ∷ g.0, g.1, g.2 ∙ omega arith)
      some l (inr b) = let g = k.some (omega arith) in (true ∷ g.0, g.1, g.2 ∙ omega arith)

  -- the pan and those behind it are each lawful
  rest : {x : ℕ} (c : Bool) (cs : Choice) → Makes on (lot old (q ∷ ks) (w ∷ ws) (a ∷ as')) x (c ∷ cs) → lawful on old ks ws as' cs ≡ true
  rest c cs m = (and_parts (cond (on q) (cond c (leb 1 w) (ltb a old)) true) (lawful on old ks ws as' cs) m.does).1

  -- no choice at all
  pub barred : (c : Bool) (x : ℕ) → ((cs : Choice) → Makes on (lot old (q ∷ ks) (w ∷ ws) (a ∷ as')) x (c ∷ cs) → ⊥) → With c x never
  barred c x h = record { cap = omega arith; low = λ cs m. absurd (h cs m); some = λ l. absurd (omega arith) }

  -- a pan of another kind may be shut or opened, and counts for nothing
  pub other : (x y : ℕ) → on q ≡ false → Before x y → After x y
  other x y off h =
      record { cap = h.cap; low = low; some = λ l. let g = h.some l in (false ∷ g.0, made g.0 g.1, omega (arith, g.2)) }
    where
      none : (c : Bool) (n : ℕ) → cond (c && on q) n 0 ≡ 0
      none true n = rw off refl
      none false n = refl

      made : (cs : Choice) → Makes on (lot old ks ws as') x cs → Makes on (lot old (q ∷ ks) (w ∷ ws) (a ∷ as')) x (false ∷ cs)
      made cs m = record { whole = ap suc m.whole; does = rw off m.does; weighs = omega (arith, m.weighs) }

      low : (cs : Choice) → Makes on (lot old (q ∷ ks) (w ∷ ws) (a ∷ as')) x cs → y ≤ cost on (lot old (q ∷ ks) (w ∷ ws) (a ∷ as')) cs
      low [] m = absurd (omega (arith, m.whole))
      low (c ∷ cs) m =
          let m' : Makes on (lot old ks ws as') x cs =
          record {
            whole = omega (arith, m.whole);
            does = rest c cs m;
            weighs = omega (arith, m.weighs, none c w);
          } in
          omega (arith, h.low cs m', none c (2 ^ 24 - 2 ^ length ws))

  module _ (of : on q ≡ true) where
    head : {x : ℕ} (c : Bool) (cs : Choice) → Makes on (lot old (q ∷ ks) (w ∷ ws) (a ∷ as')) x (c ∷ cs) → cond c (leb 1 w) (ltb a old) ≡ true
    head c cs m =
        let h : cond (on q) (cond c (leb 1 w) (ltb a old)) true ≡ true = (and_parts (cond (on q) (cond c (leb 1 w) (ltb a old)) true) (lawful on old ks ws as' cs) m.does).0 in
        rw of at h

    weighed : {x : ℕ} (cs : Choice) → Makes on (lot old (q ∷ ks) (w ∷ ws) (a ∷ as')) x (true ∷ cs) → w + on_kinds on ks ws cs ≡ x
    weighed {x} cs m =
        let h : cond (true && on q) w 0 + on_kinds on ks ws cs ≡ x = m.weighs in
        rw of at h

    pub shut_young : (x y : ℕ) → ltb a old ≡ true → Before x y → With false x y
    shut_young x y young h =
        record {
          cap = h.cap;
          low = λ cs m. omega (arith, h.low cs (record { whole = omega (arith, m.whole); does = rest false cs m; weighs = omega (arith, m.weighs) }));
          some = λ l. let g = h.some l in (g.0, record { whole = ap suc g.1.whole; does = rw (of, young) g.1.does; weighs = omega (arith, g.1.weighs) }, omega (arith, g.2));
        }

    pub shut_old : (x : ℕ) → ltb a old ≡ false → With false x never
    shut_old x is-old = barred false x (λ cs m. both_ways (ltb a old) is-old (head false cs m))

    pub open_empty : (x : ℕ) → leb 1 w ≡ false → With true x never
    open_empty x empty = barred true x (λ cs m. both_ways (leb 1 w) empty (head true cs m))

    pub open_far : (x : ℕ) → x < w → With true x never
    open_far x far = barred true x (λ cs m. let e = weighed cs m in omega (arith, e))

    pub open_near : (x y : ℕ) → leb 1 w ≡ true → w ≤ x → Before (x - w) y → With true x (min never (y + (2 ^ 24 - 2 ^ length ws)))
    open_near x y full near h =
        record {
          cap = omega arith;
          low = λ cs m. low cs m;
          some = λ l. let g = h.some (omega arith) in (
            g.0,
            record { whole = ap suc g.1.whole; does = rw (of, full) g.1.does; weighs = rw of (omega (arith, g.1.weighs)) },
            rw of (omega (arith, g.2)),
          );
        }
      where
        low : (cs : Choice) → Makes on (lot old (q ∷ ks) (w ∷ ws) (a ∷ as')) x (true ∷ cs) → min never (y + (2 ^ 24 - 2 ^ length ws)) ≤ cost on (lot old (q ∷ ks) (w ∷ ws) (a ∷ as')) (true ∷ cs)
        low cs m =
            let e = weighed cs m in
            let g = h.low cs (record { whole = omega (arith, m.whole); does = rest true cs m; weighs = omega (arith, e) }) in
            rw of (omega (arith, g))

    -- the pan opened, as the row is read: a pan that may not be opened is put past its end
    open_at : (row : ℕ → ℕ) (v x : ℕ) → ((z : ℕ) → z ≤ x → Before z (row z)) → (1 ≤ w → v ≡ w) → (w ≡ 0 → x < v) → With true x (min never (back row v x + (2 ^ 24 - 2 ^ length ws)))
    open_at row v x h same past = at (leb 1 w) refl (cases_lt x v)
      where
        lowest : (n : ℕ) → min never (never + n) ≡ never
        lowest n = omega arith

        at : (f : Bool) → leb 1 w ≡ f → (x < v) ⊎ (v ≤ x) → With true x (min never (back row v x + (2 ^ 24 - 2 ^ length ws)))
        at true f (inl far) =
            let e : leb v x ≡ false = lt-leb far in
            rw (e, lowest (2 ^ 24 - 2 ^ length ws)) (open_far x (omega (arith, same (leb-true _ _ f))))
          where
            lt-leb : x < v → leb v x ≡ false
            lt-leb l = grind (arith, nat_tests)
        at true f (inr near) =
            let e : leb v x ≡ true = le-leb _ _ near in
            let s : v ≡ w = same (leb-true _ _ f) in
            rw e (rw s (open_near x (row (x - w)) f (omega arith) (h (x - w) (omega arith))))
        at false f (inl far) = rw (le-not far, lowest (2 ^ 24 - 2 ^ length ws)) (open_empty x f)
          where
            le-not : x < v → leb v x ≡ false
            le-not l = grind (arith, nat_tests)
        at false f (inr near) = absurd (omega (arith, past (omega (arith, leb-false _ _ f))))

    pub taken_young :
        (row : ℕ → ℕ) (v x : ℕ) → ltb a old ≡ true → ((z : ℕ) → z ≤ x → Before z (row z)) → (1 ≤ w → v ≡ w) → (w ≡ 0 → x < v) →
        After x (min (row x) (back row v x + (2 ^ 24 - 2 ^ length ws)))
    taken_young row v x young h same past =
        let s = h x (omega arith) in
        let e : min (row x) (min never (back row v x + (2 ^ 24 - 2 ^ length ws))) ≡ min (row x) (back row v x + (2 ^ 24 - 2 ^ length ws)) = omega (arith, s.cap) in
        rw e at (both x (row x) (min never (back row v x + (2 ^ 24 - 2 ^ length ws))) (shut_young x (row x) young s) (open_at row v x h same past))

    pub taken_old :
        (row : ℕ → ℕ) (v x : ℕ) → ltb a old ≡ false → ((z : ℕ) → z ≤ x → Before z (row z)) → (1 ≤ w → v ≡ w) → (w ≡ 0 → x < v) →
        After x (min never (back row v x + (2 ^ 24 - 2 ^ length ws)))
    taken_old row v x is-old h same past =
        let e : min never (min never (back row v x + (2 ^ 24 - 2 ^ length ws))) ≡ min never (back row v x + (2 ^ 24 - 2 ^ length ws)) = omega arith in
        rw e at (both x never (min never (back row v x + (2 ^ 24 - 2 ^ length ws))) (shut_old x is-old) (open_at row v x h same past))
