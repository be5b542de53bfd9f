-- Sets of pans as bags' numbers: when two have no pan in common, when one has all of another, and the empty set.
use Rattle.std.proofs.Common.{◌≡◌, ℕ, zero, suc, ◌+◌, ◌*◌, ◌/◌, ◌%◌, ◌^◌, ◌<◌, Bool, true, false, not, ◌&&◌, ◌||◌, eqb, bit_and, List, [], ◌∷◌, Option, sym, refl, ap, ap₂, ◌∙◌, arith}
use native.Mathlib.Nat.{pow-succ'}
use Rattle.std.proofs.lemmas.Bool.{eq-eqb}
use Rattle.std.proofs.lemmas.Bool.Decides.{nat_tests}
use Rattle.std.proofs.lemmas.Nat.{and_block, and_le_l}
use Rattle.choices.specs.Choice.{Choice, bit, fits}
use Rattle.choices.specs.Numbered.{choice_from, odd}
use Rattle.choices.specs.declared.rule.Rule.{Rule}
use Rattle.choices.proofs.Numbers.{bit_odd}
use Rattle.order.specs.Order.{Found}
use Rattle.order.specs.declared.bag.Bag.{Bag}
use Rattle.order.proofs.Over.{found_over}
use Rattle.narrowed.specs.Narrow.{apart, fits_narrowed, fits_opening, fits_without, opens_all}

-- the lowest bit and the rest
and_step : (p q : ℕ) → bit_and p q ≡ bit_and (p / 2) (q / 2) * 2 ^ 1 + bit_and (p % 2) (q % 2)
and_step p q =
    let e : p / 2 * 2 ^ 1 + p % 2 ≡ p = omega arith in
    let f : q / 2 * 2 ^ 1 + q % 2 ≡ q = omega arith in
    rw (e, f) at (and_block 1 (p / 2) (q / 2) (p % 2) (q % 2) (omega arith) (omega arith))

low_bit : (p : ℕ) (b : Bool) → odd p ≡ b → p % 2 ≡ bit b
low_bit p b e = sym (bit_odd p) ∙ ap bit e

and_bits : (p q : ℕ) (b d : Bool) → odd p ≡ b → odd q ≡ d → bit_and p q ≡ bit_and (p / 2) (q / 2) * 2 ^ 1 + bit_and (bit b) (bit d)
and_bits p q b d e f = and_step p q ∙ ap₂ (λ (x y : ℕ). bit_and (p / 2) (q / 2) * 2 ^ 1 + bit_and x y) (low_bit p b e) (low_bit q d f)

-- two sets have no pan in common just where their numbers have no bit in common
pub apart_bits : (n p q : ℕ) → p < 2 ^ n → q < 2 ^ n → apart (choice_from n p) (choice_from n q) ≡ eqb (bit_and p q) 0
apart_bits zero p q l k = sym (eq-eqb _ _ (omega (arith, and_le_l p q)))
apart_bits (suc n) p q l k =
    ap (λ (b : Bool). not (odd p && odd q) && b) (apart_bits n (p / 2) (q / 2) (omega (arith, pow-succ' 2 n)) (omega (arith, pow-succ' 2 n))) ∙ at (odd p) (odd q) refl refl
  where
    at : (b d : Bool) → odd p ≡ b → odd q ≡ d → (not (b && d) && eqb (bit_and (p / 2) (q / 2)) 0) ≡ eqb (bit_and p q) 0
    at true true e f = let h = and_bits p q true true e f in grind (arith, nat_tests)
    at true false e f = let h = and_bits p q true false e f in grind (arith, nat_tests)
    at false true e f = let h = and_bits p q false true e f in grind (arith, nat_tests)
    at false false e f = let h = and_bits p q false false e f in grind (arith, nat_tests)

-- one set has all pans of another just where what their numbers have in common is the other's
pub opens_all_bits : (n p q : ℕ) → p < 2 ^ n → q < 2 ^ n → opens_all (choice_from n p) (choice_from n q) ≡ eqb (bit_and p q) p
opens_all_bits zero p q l k = sym (eq-eqb _ _ (omega (arith, and_le_l p q)))
opens_all_bits (suc n) p q l k =
    ap (λ (b : Bool). (not (odd p) || odd q) && b) (opens_all_bits n (p / 2) (q / 2) (omega (arith, pow-succ' 2 n)) (omega (arith, pow-succ' 2 n))) ∙ at (odd p) (odd q) refl refl
  where
    at : (b d : Bool) → odd p ≡ b → odd q ≡ d → ((not b || d) && eqb (bit_and (p / 2) (q / 2)) (p / 2)) ≡ eqb (bit_and p q) p
    at true true e f = let h = and_bits p q true true e f in let v = low_bit p true e in grind (arith, nat_tests)
    at true false e f = let h = and_bits p q true false e f in let v = low_bit p true e in grind (arith, nat_tests)
    at false true e f = let h = and_bits p q false true e f in let v = low_bit p false e in grind (arith, nat_tests)
    at false false e f = let h = and_bits p q false false e f in let v = low_bit p false e in grind (arith, nat_tests)

-- number 0 is the set of no pan
pub none_apart : (n : ℕ) (cs : Choice) → apart (choice_from n 0) cs ≡ true
none_apart zero cs = refl
none_apart (suc n) [] = refl
none_apart (suc n) (c ∷ cs) = none_apart n cs

pub none_opens_all : (n : ℕ) (cs : Choice) → opens_all (choice_from n 0) cs ≡ true
none_opens_all zero cs = refl
none_opens_all (suc n) [] = refl
none_opens_all (suc n) (c ∷ cs) = none_opens_all n cs

and_true : (a b : Bool) → b ≡ true → (a && b) ≡ a
and_true true b e = e
and_true false b e = refl

-- what is found with no pan forced open, and with none taken away
module _ (r : Rule) (ws as' : List ℕ) (n : ℕ) (o : Option Bag) where
  pub found_without : (ts : Choice) → Found (fits_narrowed r ws as' ts (choice_from n 0)) ws o → Found (fits_without r ws as' ts) ws o
  found_without ts =
      found_over (fits_narrowed r ws as' ts (choice_from n 0)) (fits_without r ws as' ts) ws ws o
      (record { same = λ cs. and_true (fits_without r ws as' ts cs) _ (none_opens_all n cs); weighs = λ cs h. refl })

  pub found_opening : (us : Choice) → Found (fits_narrowed r ws as' (choice_from n 0) us) ws o → Found (fits_opening r ws as' us) ws o
  found_opening us =
      found_over (fits_narrowed r ws as' (choice_from n 0) us) (fits_opening r ws as' us) ws ws o
      (record { same = λ cs. ap (λ (b : Bool). b && opens_all us cs) (and_true (fits r ws as' cs) _ (none_apart n cs)); weighs = λ cs h. refl })
