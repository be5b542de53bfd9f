-- Laws of tallies: what adds up over the opened pans tells whether a choice fits.
use Rattle.std.proofs.Common.{◌≡◌, ℕ, suc, ◌+◌, ◌-◌, ◌*◌, ◌/◌, ◌^◌, ◌<◌, ◌≤◌, Bool, true, false, ◌&&◌, eqb, ltb, leb, List, [], ◌∷◌, length, get_or, sym, refl, ◌∙◌, arith}
use native.Mathlib.Nat.{pow-succ'}
use Rattle.std.proofs.lemmas.Nat.{pow_pos, shr_high}
use Rattle.std.proofs.lemmas.Bool.{eq-eqb}
use Rattle.std.proofs.lemmas.Bool.Decides.{nat_tests}
use Rattle.choices.specs.Choice.{Choice, bit, weight_of, opened, none_empty, keeps_old, fits}
use Rattle.choices.specs.Numbered.{choice_of}
use Rattle.choices.specs.Tallied.{Tallied, Adds, ticked, empty_ones, old_ones, old_count_of, makes_bag}
use Rattle.choices.specs.declared.rule.Rule.{Rule}
use Rattle.choices.specs.declared.tally.Tally.{Tally}
use Rattle.choices.proofs.Blocks.{sum_apart}
use Rattle.choices.proofs.Choices.{opened_le, weight_le}
use Rattle.choices.proofs.Numbers.{bit_le, choice_of_high, length_choice_of}

-- no opened pan is empty just where the empty ones among them are none
pub none_empty_is : (ws : List ℕ) (cs : Choice) → none_empty ws cs ≡ eqb (weight_of (empty_ones ws) cs) 0
none_empty_is [] cs = refl
none_empty_is (w ∷ ws) [] = refl
none_empty_is (w ∷ ws) (true ∷ cs) = rw (none_empty_is ws cs) (at (eqb w 0) refl)
  where
    at : (e : Bool) → eqb w 0 ≡ e → (leb 1 w && eqb (weight_of (empty_ones ws) cs) 0) ≡ eqb (bit e + weight_of (empty_ones ws) cs) 0
    at true e = grind (arith, nat_tests)
    at false e = grind (arith, nat_tests)
none_empty_is (w ∷ ws) (false ∷ cs) = rw (none_empty_is ws cs) (grind (arith, nat_tests))

old_le : (old : ℕ) (as' : List ℕ) (cs : Choice) → weight_of (old_ones old as') cs ≤ old_count_of old as'
old_le old [] cs = omega arith
old_le old (a ∷ as') [] = omega arith
old_le old (a ∷ as') (true ∷ cs) = omega (arith, old_le old as' cs)
old_le old (a ∷ as') (false ∷ cs) = omega (arith, old_le old as' cs)

-- every old pan is opened just where as many are opened as there are
pub keeps_old_is : (old : ℕ) (as' : List ℕ) (cs : Choice) → length cs ≡ length as' → keeps_old old as' cs ≡ eqb (weight_of (old_ones old as') cs) (old_count_of old as')
keeps_old_is old [] cs e = refl
keeps_old_is old (a ∷ as') [] e = absurd (omega arith)
keeps_old_is old (a ∷ as') (true ∷ cs) e = rw (keeps_old_is old as' cs (omega arith)) (grind (arith, nat_tests))
keeps_old_is old (a ∷ as') (false ∷ cs) e = rw (keeps_old_is old as' cs (omega arith)) (at (leb old a) refl)
  where
    at : (b : Bool) → leb old a ≡ b → (ltb a old && eqb (weight_of (old_ones old as') cs) (old_count_of old as')) ≡ eqb (0 + weight_of (old_ones old as') cs) (bit b + old_count_of old as')
    at true h = grind (arith, nat_tests, old_le old as' cs)
    at false h = grind (arith, nat_tests)

-- where every pan is opened, so are all old ones
pub all_opened : (old : ℕ) (as' : List ℕ) → weight_of (old_ones old as') (choice_of (length as') (2 ^ length as' - 1)) ≡ old_count_of old as'
all_opened old [] = refl
all_opened old (a ∷ as') =
    let n = length as' in
    let e : 2 ^ suc n - 1 ≡ 1 * 2 ^ n + (2 ^ n - 1) = omega (arith, pow-succ' 2 n, pow_pos n) in
    let top : (1 * 2 ^ n + (2 ^ n - 1)) / 2 ^ n ≡ 1 = shr_high 1 n (2 ^ n - 1) (omega (arith, pow_pos n)) in
    rw (e, top, choice_of_high n 1 (2 ^ n - 1), all_opened old as')

-- the test of a rule by a tally
pub fits_is :
    (r : Rule) (ws as' : List ℕ) (cs : Choice) (t : Tally) → length cs ≡ length ws → length as' ≡ length ws →
    Tallied ws as' r.age cs t → makes_bag r (old_count_of r.age as') t ≡ fits r ws as' cs
unfolding fits
fits_is r ws as' cs t e p h =
    rw (h.weighs, h.counts, h.empties, h.olds, ← none_empty_is ws cs, ← keeps_old_is r.age as' cs (e ∙ sym p), eq-eqb (length cs) (length ws) e)
    (regroup (leb r.target (weight_of ws cs)) (leb (weight_of ws cs) (r.target + r.above)) (leb (opened cs) r.pans) _)
  where
    regroup : (a b d s : Bool) → (((a && b) && d) && s) ≡ (a && (b && (d && s)))
    regroup false b d s = refl
    regroup true false d s = refl
    regroup true true d s = refl

-- ---- what choices of a block add up to
opened_is : (xs : List ℕ) (cs : Choice) → length cs ≡ length xs → opened cs ≡ weight_of (ticked (λ _. true) xs) cs
opened_is [] [] e = refl
opened_is [] (c ∷ cs) e = absurd (omega arith)
opened_is (x ∷ xs) [] e = absurd (omega arith)
opened_is (x ∷ xs) (true ∷ cs) e = omega (arith, opened_is xs cs (omega arith))
opened_is (x ∷ xs) (false ∷ cs) e = omega (arith, opened_is xs cs (omega arith))

pub opened_apart :
    (xs : List ℕ) (q t r : ℕ) → r < 2 ^ t →
    opened (choice_of (length xs) (q * 2 ^ t + r)) ≡ opened (choice_of (length xs) (q * 2 ^ t)) + opened (choice_of (length xs) r)
opened_apart xs q t r l =
    omega (arith, is (q * 2 ^ t + r), is (q * 2 ^ t), is r, sum_apart (ticked (λ _. true) xs) (length xs) q t r l)
  where
    is : (m : ℕ) → opened (choice_of (length xs) m) ≡ weight_of (ticked (λ _. true) xs) (choice_of (length xs) m)
    is m = opened_is xs (choice_of (length xs) m) (length_choice_of (length xs) m)

pub tallied_apart :
    (ws as' : List ℕ) (old q t r : ℕ) (a b d : Tally) → r < 2 ^ t →
    Tallied ws as' old (choice_of (length ws) (q * 2 ^ t)) a → Tallied ws as' old (choice_of (length ws) r) b →
    Adds a b d → Tallied ws as' old (choice_of (length ws) (q * 2 ^ t + r)) d
tallied_apart ws as' old q t r a b d l h k e =
    record {
      weighs = omega (arith, e.weighs, h.weighs, k.weighs, sum_apart ws (length ws) q t r l);
      counts = omega (arith, e.counts, h.counts, k.counts, opened_apart ws q t r l);
      empties = omega (arith, e.empties, h.empties, k.empties, sum_apart (empty_ones ws) (length ws) q t r l);
      olds = omega (arith, e.olds, h.olds, k.olds, sum_apart (old_ones old as') (length ws) q t r l);
    }

ticked_le : (f : ℕ → Bool) (xs : List ℕ) (cs : Choice) → weight_of (ticked f xs) cs ≤ opened cs
ticked_le f [] cs = omega arith
ticked_le f (x ∷ xs) [] = omega arith
ticked_le f (x ∷ xs) (true ∷ cs) = omega (arith, ticked_le f xs cs, bit_le (f x))
ticked_le f (x ∷ xs) (false ∷ cs) = omega (arith, ticked_le f xs cs)

-- a ring's tallies are small numbers
pub record Small (t : Tally) : Type 0 where
  pub light : t.weight ≤ 24000000
  pub few : t.pans ≤ 24
  pub filled : t.empty ≤ 24
  pub young : t.old ≤ 24

pub tallied_small :
    (ws as' : List ℕ) (old : ℕ) (cs : Choice) (t : Tally) → length cs ≤ 24 → ((i : ℕ) → get_or ws i 0 ≤ 1000000) → Tallied ws as' old cs t → Small t
tallied_small ws as' old cs t n light h =
    record {
      light = omega (arith, h.weighs, weight_le 1000000 ws cs light, opened_le cs);
      few = omega (arith, h.counts, opened_le cs);
      filled = omega (arith, h.empties, ticked_le (λ w. eqb w 0) ws cs, opened_le cs);
      young = omega (arith, h.olds, ticked_le (λ a. leb old a) as' cs, opened_le cs);
    }

-- an opened pan that is not empty weighs something
pub weighs_some : (ws : List ℕ) (cs : Choice) → length cs ≡ length ws → opened cs ≤ weight_of ws cs + weight_of (empty_ones ws) cs
weighs_some [] [] e = omega arith
weighs_some [] (c ∷ cs) e = absurd (omega arith)
weighs_some (w ∷ ws) [] e = absurd (omega arith)
weighs_some (w ∷ ws) (false ∷ cs) e = omega (arith, weighs_some ws cs (omega arith))
weighs_some (w ∷ ws) (true ∷ cs) e = omega (arith, weighs_some ws cs (omega arith), at (eqb w 0) refl)
  where
    at : (b : Bool) → eqb w 0 ≡ b → 1 ≤ w + bit b
    at true h = omega arith
    at false h = grind (arith, nat_tests)
