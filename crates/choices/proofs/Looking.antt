-- One look over the pans, pan by pan: what is seen so far and what is left make up the whole.
use Rattle.std.proofs.Common.{◌≡◌, ℕ, zero, suc, ◌+◌, ◌*◌, ◌/◌, ◌^◌, ◌≤◌, Bool, true, false, cond, eqb, leb, List, [], ◌∷◌, length, get_or, ◌∙◌, add-one, arith}
use Rattle.choices.specs.Choice.{Choice, bit, weight_of, opened}
use Rattle.choices.specs.Numbered.{choice_of, odd}
use Rattle.choices.proofs.Numbers.{bit_le}
use Rattle.choices.specs.Tallied.{Tallied, empty_ones, old_ones}
use Rattle.choices.specs.declared.tally.Tally.{Tally}

-- the pans in ws' and as' are left, and n is their number; the choice is cs, and m its number
pub record Looking (old : ℕ) (ws as'' : List ℕ) (cs : Choice) (ws' as' : List ℕ) (n m : ℕ) (t : Tally) : Type 0 where
  pub left : n ≡ length ws'
  pub paired : length as' ≡ length ws'
  pub light : (i : ℕ) → get_or ws' i 0 ≤ 1000000
  pub few : t.pans + n ≤ 24
  pub fewer : t.empty ≤ t.pans
  pub younger : t.old ≤ t.pans
  pub fits : t.weight + 1000000 * n ≤ 24000000
  pub weighs : t.weight + weight_of ws' (choice_of n m) ≡ weight_of ws cs
  pub counts : t.pans + opened (choice_of n m) ≡ opened cs
  pub empties : t.empty + weight_of (empty_ones ws') (choice_of n m) ≡ weight_of (empty_ones ws) cs
  pub olds : t.old + weight_of (old_ones old as') (choice_of n m) ≡ weight_of (old_ones old as'') cs

part_le : (b : Bool) (w : ℕ) → cond b w 0 ≤ w
part_le true w = omega arith
part_le false w = omega arith

part_one : (b d : Bool) → cond b (bit d) 0 ≤ bit b
part_one true d = bit_le d
part_one false d = omega arith

-- one pan more is seen
pub looking_more :
    (old : ℕ) (ws as'' : List ℕ) (cs : Choice) (w a : ℕ) (ws' as' : List ℕ) (n m : ℕ) (t u : Tally) →
    Looking old ws as'' cs (w ∷ ws') (a ∷ as') (suc n) m t →
    u.weight ≡ t.weight + cond (odd (m / 2 ^ n)) w 0 →
    u.pans ≡ t.pans + bit (odd (m / 2 ^ n)) →
    u.empty ≡ t.empty + cond (odd (m / 2 ^ n)) (bit (eqb w 0)) 0 →
    u.old ≡ t.old + cond (odd (m / 2 ^ n)) (bit (leb old a)) 0 →
    Looking old ws as'' cs ws' as' n m u
looking_more old ws as'' cs w a ws' as' n m t u h weighs counts empties olds =
    record {
      left = omega arith;
      paired = omega arith;
      light = λ i. h.light (suc i);
      few = omega (arith, bit_le (odd (m / 2 ^ n)));
      fits = omega (arith, h.light 0, part_le (odd (m / 2 ^ n)) w);
      weighs = omega (arith, h.weighs);
      counts = omega (arith, h.counts);
      fewer = omega (arith, part_one (odd (m / 2 ^ n)) (eqb w 0));
      younger = omega (arith, part_one (odd (m / 2 ^ n)) (leb old a));
      empties = omega (arith, h.empties);
      olds = omega (arith, h.olds);
    }

-- no pan is left
pub looking_all :
    {old : ℕ} {ws as'' : List ℕ} {cs : Choice} {ws' as' : List ℕ} {n m : ℕ} {t : Tally} →
    Looking old ws as'' cs ws' as' n m t → n ≡ 0 → Tallied ws as'' old cs t
looking_all {old = old} {ws = ws} {as'' = as''} {cs = cs} {m = m} {t = t} h e = ends _ _ _ e h
  where
    ends : (ws' as' : List ℕ) (n : ℕ) → n ≡ 0 → Looking old ws as'' cs ws' as' n m t → Tallied ws as'' old cs t
    ends [] [] zero e h = record { weighs = omega (arith, h.weighs); counts = omega (arith, h.counts); empties = omega (arith, h.empties); olds = omega (arith, h.olds) }
    ends [] (a ∷ as') zero e h = absurd (omega (arith, h.paired))
    ends (w ∷ ws') as' zero e h = absurd (omega (arith, h.left))
    ends ws' as' (suc n) e h = absurd (omega (arith, e))

-- one pan more, the first of what is left, in the place behind which the others stand
pub looking_next :
    {old : ℕ} {ws as'' : List ℕ} {cs : Choice} {w a : ℕ} {ws₁ as₁ ws' as' : List ℕ} {n k p m : ℕ} {t u : Tally} →
    Looking old ws as'' cs ws₁ as₁ n m t → ws₁ ≡ w ∷ ws' → as₁ ≡ a ∷ as' → n ≡ k + 1 → p ≡ k →
    u.weight ≡ t.weight + cond (odd (m / 2 ^ p)) w 0 →
    u.pans ≡ t.pans + bit (odd (m / 2 ^ p)) →
    u.empty ≡ t.empty + cond (odd (m / 2 ^ p)) (bit (eqb w 0)) 0 →
    u.old ≡ t.old + cond (odd (m / 2 ^ p)) (bit (leb old a)) 0 →
    Looking old ws as'' cs ws' as' k m u
looking_next {k = k} h e f g p weighs counts empties olds =
    looking_more _ _ _ _ _ _ _ _ _ _ _ _ (rw (e, f, g ∙ add-one k) at h) (rw p at weighs) (rw p at counts) (rw p at empties) (rw p at olds)

-- what lies in the next pan, and the tally with it, stay in range
pub looking_room :
    {old : ℕ} {ws as'' : List ℕ} {cs : Choice} {w : ℕ} {ws₁ as₁ ws' : List ℕ} {n m : ℕ} {t : Tally} →
    Looking old ws as'' cs ws₁ as₁ n m t → ws₁ ≡ w ∷ ws' → (t.weight + w ≤ 24000000) × (t.pans + 1 ≤ 24) × (t.empty + 1 ≤ 24) × (t.old + 1 ≤ 24)
looking_room {w = w} {t = t} h e = let k = rw e at h in omega (arith, k.light 0, k.left, k.fits, k.few, k.fewer, k.younger)
