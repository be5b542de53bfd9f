-- A part of the pans takes in one more pan, from the last pan to the first.
use Rattle.std.proofs.Common.{◌≡◌, ℕ, zero, suc, ◌+◌, ◌-◌, ◌*◌, ◌^◌, ◌<◌, ◌≤◌, true, false, ◌⊎◌, List, [], ◌∷◌, length, get_or, drop, sym, refl, ap, ◌∙◌, inl, inr, arith, pow_mono}
use native.Mathlib.Nat.{pow-succ'}
use Rattle.std.proofs.lemmas.Bool.{and_parts, and_from, both_ways}
use Rattle.std.proofs.lemmas.Nat.{pow_below}
use Rattle.std.proofs.lemmas.List.{drop_all, drop_more, length-drop, get_or-drop}
use Rattle.choices.specs.Choice.{Choice}
use Rattle.halves_places.specs.Place.{by_ways, place}
use Rattle.halves_growth.specs.Entries.{Sorted, Holds, Grown}
use Rattle.halves_growth.specs.Part.{Part}
use Rattle.halves_places.specs.declared.pans.Pans.{Pans}
use Rattle.halves_places.specs.declared.way.Way.{Way}
use Rattle.halves_places.proofs.Places.{length_by_ways, pow_more, place_below}

-- no pan yet: the one choice of no pans
pub none_of : (b r to : ℕ) (es : List ℕ) → get_or es 0 0 ≡ r → Part b r to [] [] es 1
none_of b r to es e =
    record {
      few = omega arith;
      rises = λ p q a l. let d : p ≡ q = omega arith in rw d (omega arith);
      every = λ cs h l. (0, omega arith, e ∙ omega arith);
      only = λ q l. ([], refl, one q l);
    }
  where
    one : (q : ℕ) → q < 1 → 0 + r ≡ get_or es q 0
    one q l = let d : q ≡ 0 = omega arith in rw d (omega (arith, e))

-- one pan more in front
pub more_of :
    (b r r' to w : ℕ) (ws : List ℕ) (v : Way) (vs : List Way) (old es : List ℕ) (n n' gain : ℕ) →
    Part b r to ws vs old n → Grown to v gain old es n n' → length vs ≡ length ws → b + length ws < 24 →
    r' + 2 ^ (b + length ws) ≡ r → gain + 2 ^ (b + length ws) ≡ w * 2 ^ 29 + 2 ^ 24 →
    Part b r' to (w ∷ ws) (v ∷ vs) es n'
more_of b r r' to w ws v vs old es n n' gain h g paired few lower gained =
    record {
      few = rw (pow-succ' 2 (length ws)) (omega (arith, h.few, g.few));
      rises = g.rises;
      every = every;
      only = λ q l. only q (g.only q l);
    }
  where
    every : (cs : Choice) → by_ways (v ∷ vs) cs ≡ true → place b (w ∷ ws) cs + r' < to → Holds es n' (place b (w ∷ ws) cs + r')
    every [] a l = absurd (both_ways false refl a)
    every (true ∷ cs) a l =
        let k : (v.opens ≡ true) × (by_ways vs cs ≡ true) = and_parts v.opens (by_ways vs cs) a in
        let s : 2 ^ (b + length ws) < 2 ^ 24 = pow_below (b + length ws) 24 few in
        let x : Holds old n (place b ws cs + r) = h.every cs k.1 (omega arith) in
        let y : get_or old x.0 0 + gain ≡ place b (w ∷ ws) (true ∷ cs) + r' = omega (arith, x.2) in
        let t : get_or old x.0 0 + gain < to = omega arith in
        rw y at (g.adds k.0 x.0 x.1 t)
    every (false ∷ cs) a l =
        let k : (v.young ≡ true) × (by_ways vs cs ≡ true) = and_parts v.young (by_ways vs cs) a in
        let p : 2 ^ (b + length cs) ≡ 2 ^ (b + length ws) = ap (λ (m : ℕ). 2 ^ (b + m)) (length_by_ways vs cs k.1 ∙ paired) in
        let x : Holds old n (place b ws cs + r) = h.every cs k.1 (omega arith) in
        let y : get_or old x.0 0 ≡ place b (w ∷ ws) (false ∷ cs) + r' = omega (arith, x.2) in
        rw y at (g.keeps k.0 x.0 x.1)

    only : (q : ℕ) → ((v.young ≡ true) × Holds old n (get_or es q 0)) ⊎ ((v.opens ≡ true) × ((p : ℕ) × (p < n) × (get_or old p 0 + gain ≡ get_or es q 0))) → (cs : Choice) × (by_ways (v ∷ vs) cs ≡ true) × (place b (w ∷ ws) cs + r' ≡ get_or es q 0)
    only q (inl (s, (p, l, e))) =
        let x = h.only p l in
        (false ∷ x.0, and_from _ _ s x.1, omega (arith, e, x.2, ap (λ (m : ℕ). 2 ^ (b + m)) (length_by_ways vs x.0 x.1 ∙ paired)))
    only q (inr (s, (p, l, e))) =
        let x = h.only p l in
        (true ∷ x.0, and_from _ _ s x.1, omega (arith, e, x.2))

-- an entry that is some choice's place is low enough for sums to fit
pub low_of :
    (b r : ℕ) (ws : List ℕ) (vs : List Way) (x : ℕ) → length vs ≡ length ws → b + length ws ≤ 24 → r ≤ 2 ^ 24 → ((i : ℕ) → get_or ws i 0 ≤ 1000000) →
    (cs : Choice) × (by_ways vs cs ≡ true) × (place b ws cs + r ≡ x) → x < 2 ^ 62
low_of b r ws vs x paired few low light (cs, h, e) = omega (arith, e, place_below b ws cs light few (length_by_ways vs cs h ∙ paired))

-- the pans from k on, with what the pans before them add while they stay shut
abbrev pub From : ℕ → ℕ → Pans → ℕ → List ℕ → ℕ → Type 0
From b to p k es n = Part b (2 ^ (b + length p.weights.now) - 2 ^ (b + (length p.weights.now - k))) to (drop k p.weights.now) (drop k p.ways.now) es n

module _ (b to : ℕ) (p : Pans) (few : b + length p.weights.now ≤ 24) where
  pub from_last : (n : ℕ) (es : List ℕ) → length p.weights.now ≡ n → get_or es 0 0 ≡ 2 ^ (b + n) - 2 ^ b → From b to p n es 1
  from_last n es whole e =
      let ws = p.weights.now in
      let vs = p.ways.now in
      let d : b + (length ws - length ws) ≡ b = omega arith in
      let k : length vs ≤ length ws = omega arith in
      rw (sym whole) (rw (drop_all (length ws) ws (omega arith), drop_all (length ws) vs k, d) (none_of b _ to es (rw (sym whole) at e)))

  pub from_step :
      (k : ℕ) → 0 < k → k ≤ length p.weights.now → (v : Way) (gain : ℕ) (old es : List ℕ) (n n' : ℕ) → ((d : Way) → v ≡ get_or p.ways.now (k - 1) d) →
      gain + 2 ^ (b + (length p.weights.now - 1 - (k - 1))) ≡ get_or p.weights.now (k - 1) 0 * 2 ^ 29 + 2 ^ 24 →
      From b to p k old n → Grown to v gain old es n n' → From b to p (k - 1) es n'
  from_step k some within v gain old es n n' by-way gained h g =
      let ws = p.weights.now in
      let vs = p.ways.now in
      let i : k - 1 + 1 ≡ k = omega arith in
      let l : length (drop k ws) ≡ length ws - k = length-drop k ws in
      let e : 2 ^ (b + length (drop k ws)) ≡ 2 ^ (b + (length ws - k)) = ap (λ (m : ℕ). 2 ^ (b + m)) l in
      let q : 2 ^ (b + suc (length (drop k ws))) ≡ 2 ^ (b + (length ws - (k - 1))) = ap (λ (m : ℕ). 2 ^ (b + m)) (omega arith) in
      let r : 2 ^ (b + (length ws - 1 - (k - 1))) ≡ 2 ^ (b + (length ws - k)) = ap (λ (m : ℕ). 2 ^ (b + m)) (omega arith) in
      let s : 2 ^ (b + (length ws - (k - 1))) ≤ 2 ^ (b + length ws) = pow_mono (omega arith) in
      let t : 2 ^ (b + length ws) ≤ 2 ^ 24 = pow_mono few in
      let u : 2 ^ (b + suc (length (drop k ws))) ≡ 2 * 2 ^ (b + length (drop k ws)) = pow_more b (length (drop k ws)) in
      let x : drop (k - 1) ws ≡ get_or ws (k - 1) 0 ∷ drop k ws = rw i at (drop_more ws (k - 1) 0 (omega arith)) in
      let y : drop (k - 1) vs ≡ v ∷ drop k vs = rw (i, sym (by-way v)) at (drop_more vs (k - 1) v (omega arith)) in
      rw (x, y)
      (more_of b _ (2 ^ (b + length ws) - 2 ^ (b + (length ws - (k - 1)))) to (get_or ws (k - 1) 0) (drop k ws) v (drop k vs) old es n n' gain
      h g (length-drop k vs ∙ (omega arith)) (omega arith) (omega arith) (omega arith))

  pub drop_paired : (k : ℕ) → length (drop k p.ways.now) ≡ length (drop k p.weights.now)
  drop_paired k = length-drop k p.ways.now ∙ (ap (λ (m : ℕ). m - k) p.paired ∙ sym (length-drop k p.weights.now))

  pub from_room : (k : ℕ) (es : List ℕ) (n : ℕ) → 0 < k → k ≤ length p.weights.now → From b to p k es n → n + n ≤ 2 ^ length p.weights.now
  from_room k es n some within h =
      let ws = p.weights.now in
      let e : 2 ^ length (drop k ws) ≡ 2 ^ (length ws - k) = ap (λ (m : ℕ). 2 ^ m) (length-drop k ws) in
      let q : 2 ^ suc (length ws - k) ≡ 2 * 2 ^ (length ws - k) = pow-succ' 2 (length ws - k) in
      let r : 2 ^ suc (length ws - k) ≤ 2 ^ length ws = pow_mono (omega arith) in
      omega (arith, h.few)

  pub from_sorted : (k : ℕ) (es : List ℕ) (n : ℕ) → From b to p k es n → Sorted es n
  from_sorted k es n h =
      let s : 2 ^ (b + length p.weights.now) ≤ 2 ^ 24 = pow_mono few in
      record {
        rises = h.rises;
        low = λ i l. low_of b _ (drop k p.weights.now) (drop k p.ways.now) (get_or es i 0) (drop_paired k) (omega (arith, length-drop k p.weights.now)) (omega arith) (λ j. rw (get_or-drop k p.weights.now j 0) (p.light (k + j))) (h.only i l);
      }

  pub from_first : (k : ℕ) (es : List ℕ) (n : ℕ) → k ≤ 0 → From b to p k es n → Part b 0 to p.weights.now p.ways.now es n
  from_first zero es n l h =
      let e : 2 ^ (b + length p.weights.now) - 2 ^ (b + (length p.weights.now - zero)) ≡ 0 = let d : length p.weights.now - 0 ≡ length p.weights.now = omega arith in rw d (omega arith) in
      rw e at h
  from_first (suc k) es n l h = absurd (omega arith)
