-- The most that so many pans weigh, pan by pan.
use Rattle.std.proofs.Common.{◌≡◌, ℕ, zero, suc, ◌+◌, ◌-◌, ◌*◌, ◌<◌, ◌≤◌, max, true, false, List, [], ◌∷◌, ◌++◌, length, get_or, set, refl, ap, ◌∙◌, ⊎_elim, append_assoc, length-append, arith}
use Rattle.std.proofs.lemmas.List.{get_or-set_same, get_or-set_other, get_or_past, get_or_at, length-set}
use Rattle.std.proofs.lemmas.Bool.{cases_eq, cases_lt}
use Rattle.halves_sieves.specs.Sieve.{Most}

-- one pan more in front: it is opened, or it is not
pub most_more :
    (w : ℕ) (us old most : List ℕ) → get_or most 0 0 ≡ get_or old 0 0 → ((r : ℕ) → r < 24 → get_or most (r + 1) 0 ≡ max (get_or old (r + 1) 0) (get_or old r 0 + w)) →
    Most us old → Most (w ∷ us) most
most_more w us old most none more h [] r e l few = absurd (omega arith)
most_more w us old most none more h (true ∷ cs) zero e l few = absurd (omega arith)
most_more w us old most none more h (true ∷ cs) (suc r) e l few =
    let d : suc r ≡ r + 1 = omega arith in
    rw d (omega (arith, more r (omega arith), h cs r (omega arith) (omega arith) (omega arith)))
most_more w us old most none more h (false ∷ cs) zero e l few = omega (arith, none, h cs 0 (omega arith) (omega arith) (omega arith))
most_more w us old most none more h (false ∷ cs) (suc r) e l few =
    let d : suc r ≡ r + 1 = omega arith in
    rw d (omega (arith, more r (omega arith), h cs (r + 1) (omega arith) (omega arith) (omega arith)))

-- the entries for more than k pans are done, the others still as they were
pub record Worked (w : ℕ) (old most : List ℕ) (k : ℕ) : Type 0 where
  pub long : length most ≡ 25
  pub still : (q : ℕ) → q ≤ k → get_or most q 0 ≡ get_or old q 0
  pub done : (q : ℕ) → k ≤ q → q < 24 → get_or most (q + 1) 0 ≡ max (get_or old (q + 1) 0) (get_or old q 0 + w)

pub worked_more :
    (w : ℕ) (old most : List ℕ) (k x : ℕ) → 0 < k → k ≤ 24 → Worked w old most k → x ≡ max (get_or most (k - 1 + 1) 0) (get_or most (k - 1) 0 + w) →
    Worked w old (set most (k - 1 + 1) x) (k - 1)
worked_more w old most k x some few h e =
    record {
      long = length-set most (k - 1 + 1) x ∙ h.long;
      still = λ q l. get_or-set_other most (k - 1 + 1) q x 0 (omega arith) ∙ h.still q (omega arith);
      done = λ q a l. ⊎_elim (λ d. rw d here) (λ d. get_or-set_other most (k - 1 + 1) (q + 1) x 0 (omega arith) ∙ h.done q (omega arith) l) (cases_eq q (k - 1));
    }
  where
    here : get_or (set most (k - 1 + 1) x) (k - 1 + 1) 0 ≡ max (get_or old (k - 1 + 1) 0) (get_or old (k - 1) 0 + w)
    here = get_or-set_same most (k - 1 + 1) x 0 (omega (arith, h.long)) ∙ omega (arith, h.still (k - 1 + 1) (omega arith), h.still (k - 1) (omega arith))

-- the entries stay low
pub low_more :
    (w b : ℕ) (old most : List ℕ) → length most ≡ 25 → get_or most 0 0 ≡ get_or old 0 0 → ((r : ℕ) → r < 24 → get_or most (r + 1) 0 ≡ max (get_or old (r + 1) 0) (get_or old r 0 + w)) →
    ((r : ℕ) → get_or old r 0 ≤ b) → (r : ℕ) → get_or most r 0 ≤ b + w
low_more w b old most long none more low zero = omega (arith, none, low 0)
low_more w b old most long none more low (suc r) =
    let d : suc r ≡ r + 1 = omega arith in
    rw d (⊎_elim (λ l. omega (arith, more r l, low r, low (r + 1))) (λ l. omega (arith, get_or_past most (r + 1) 0 (omega arith))) (cases_lt r 24))

-- any entries are right for no pans
pub most_none : (most : List ℕ) → Most [] most
most_none most cs r e l few = omega arith

-- the pans of ws but for those in rest are taken in
pub record Weighing (ws rest old most : List ℕ) : Type 0 where
  pub taken : List ℕ
  pub whole : ws ≡ rest ++ taken
  pub weighs : (us : List ℕ) → Most us old → Most (taken ++ us) most
  pub low : (b : ℕ) → ((r : ℕ) → get_or old r 0 ≤ b) → (r : ℕ) → get_or most r 0 ≤ b + length taken * 1000000

pub weighing_more :
    (ws rest old most new : List ℕ) (w : ℕ) → Weighing ws (rest ++ w ∷ []) old most → ((i : ℕ) → get_or ws i 0 ≤ 1000000) → length new ≡ 25 →
    get_or new 0 0 ≡ get_or most 0 0 → ((r : ℕ) → r < 24 → get_or new (r + 1) 0 ≡ max (get_or most (r + 1) 0) (get_or most r 0 + w)) → Weighing ws rest old new
weighing_more ws rest old most new w h light long none more =
    record {
      taken = w ∷ h.taken;
      whole = whole;
      weighs = λ us m. most_more w (h.taken ++ us) most new none more (h.weighs us m);
      low = λ b low r. omega (arith, low_more w _ most new long none more (h.low b low) r, light (length rest), here);
    }
  where
    whole : ws ≡ rest ++ w ∷ h.taken
    whole = h.whole ∙ append_assoc rest (w ∷ []) h.taken

    here : get_or ws (length rest) 0 ≡ w
    here = rw whole (get_or_at rest w h.taken 0 (length rest) refl)

-- the entries stay low for all pans
pub weighing_low : (ws rest old most : List ℕ) (b : ℕ) → Weighing ws rest old most → ((r : ℕ) → get_or old r 0 ≤ b) → (r : ℕ) → get_or most r 0 ≤ b + length ws * 1000000
weighing_low ws rest old most b h low r = omega (arith, h.low b low r, ap length h.whole, length-append rest h.taken)
