-- What lies in the opened pans of each kind: pan by pan, and group by group.
use Rattle.std.proofs.Common.{◌≡◌, ℕ, zero, suc, ◌+◌, ◌-◌, ◌*◌, ◌/◌, ◌%◌, ◌^◌, ◌<◌, ◌≤◌, true, false, cond, ◌&&◌, eqb, List, [], ◌∷◌, length, get_or, set, drop, ⊎_elim, add-one, refl, sym, ap, ◌∙◌, drop-cons, arith}
use Rattle.std.proofs.Math.Nat.{mul-le-mul_right}
use Rattle.std.proofs.lemmas.Bool.{cases_eq, eq-eqb}
use Rattle.std.proofs.lemmas.Bool.Decides.{nat_tests}
use Rattle.std.proofs.lemmas.Grind.{get_or-set_at}
use Rattle.std.proofs.lemmas.List.{get_or-set_other, length-set}
use Rattle.choices.specs.Choice.{Choice, weight_of, opened}
use Rattle.choices.specs.Numbered.{Opens, choice_of, odd}
use Rattle.choices.proofs.Blocks.{opens_weight, sum_apart}
use Rattle.choices.proofs.Choices.{opened_le, weight_le}
use Rattle.choices.proofs.Numbers.{length_choice_of}
use Rattle.kinds.specs.Kinds.{weight_of_kind}

-- what the pans of a kind weigh; the others count as empty
of_kind : ℕ → (kinds weights : List ℕ) → List ℕ
of_kind k [] ws = []
of_kind k (q ∷ ks) [] = []
of_kind k (q ∷ ks) (w ∷ ws) = cond (eqb q k) w 0 ∷ of_kind k ks ws

of_kind_weighs : (k : ℕ) (ks ws : List ℕ) (cs : Choice) → weight_of_kind k ks ws cs ≡ weight_of (of_kind k ks ws) cs
unfolding of_kind
of_kind_weighs k [] ws cs = refl
of_kind_weighs k (q ∷ ks) [] cs = refl
of_kind_weighs k (q ∷ ks) (w ∷ ws) [] = refl
of_kind_weighs k (q ∷ ks) (w ∷ ws) (true ∷ cs) = ap (λ (x : ℕ). cond (eqb q k) w 0 + x) (of_kind_weighs k ks ws cs)
of_kind_weighs k (q ∷ ks) (w ∷ ws) (false ∷ cs) = ap (λ (x : ℕ). 0 + x) (of_kind_weighs k ks ws cs)

-- of disjoint sets of pans together each kind has what it has in both
pub kind_apart :
    (k : ℕ) (ks ws : List ℕ) (n q t r : ℕ) → r < 2 ^ t →
    weight_of_kind k ks ws (choice_of n (q * 2 ^ t + r)) ≡ weight_of_kind k ks ws (choice_of n (q * 2 ^ t)) + weight_of_kind k ks ws (choice_of n r)
kind_apart k ks ws n q t r l =
    rw (of_kind_weighs k ks ws (choice_of n (q * 2 ^ t + r)), of_kind_weighs k ks ws (choice_of n (q * 2 ^ t)), of_kind_weighs k ks ws (choice_of n r)) (sum_apart (of_kind k ks ws) n q t r l)

-- no kind weighs more than all
kind_le : (k : ℕ) (ks ws : List ℕ) (cs : Choice) → weight_of_kind k ks ws cs ≤ weight_of ws cs
kind_le k [] ws cs = omega arith
kind_le k (q ∷ ks) [] cs = omega arith
kind_le k (q ∷ ks) (w ∷ ws) [] = omega arith
kind_le k (q ∷ ks) (w ∷ ws) (c ∷ cs) = grind (arith, nat_tests, kind_le k ks ws cs)

pub kind_fits : (k : ℕ) (ks ws : List ℕ) (x : ℕ) → ((i : ℕ) → get_or ws i 0 ≤ 1000000) → length ws ≤ 24 → weight_of_kind k ks ws (choice_of (length ws) x) ≤ 24000000
kind_fits k ks ws x light few =
    let cs = choice_of (length ws) x in
    let a : opened cs ≤ 24 = omega (arith, opened_le cs, length_choice_of (length ws) x) in
    let b : opened cs * 1000000 ≤ 24 * 1000000 = mul-le-mul_right 1000000 a in
    omega (arith, kind_le k ks ws cs, weight_le 1000000 ws cs light, b)

-- what a pan adds to a kind's sum
gain_same : (x q k w : ℕ) → q ≡ k → cond (odd x && eqb q k) w 0 ≡ w * (x % 2)
gain_same x q k w e = by_bit (x % 2) (omega arith)
  where
    by_bit : (m : ℕ) → m < 2 → cond (eqb m 1 && eqb q k) w 0 ≡ w * m
    by_bit zero l = omega arith
    by_bit (suc zero) l = rw (eq-eqb q k e) (omega arith)
    by_bit (suc (suc m)) l = absurd (omega arith)

gain_other : (x q k w : ℕ) → (q ≡ k → ⊥) → cond (odd x && eqb q k) w 0 ≡ 0
gain_other x q k w ne = grind (arith, nat_tests)

-- the sums so far and the pans from the i-th on make up what each kind has
pub record Summed (ks ws : List ℕ) (x i : ℕ) (sums : List ℕ) : Type 0 where
  pub long : length sums ≡ 4
  pub whole : (k : ℕ) → k < 4 → get_or sums k 0 + weight_of_kind k (drop i ks) (drop i ws) (choice_of (length ws - i) x) ≡ weight_of_kind k ks ws (choice_of (length ws) x)

-- a pan more
module _ (ks ws : List ℕ) (paired : length ks ≡ length ws) (x i b : ℕ) (l : i < length ws) (behind : b ≡ length ws - 1 - i) where
  next_pan : (k : ℕ) → weight_of_kind k (drop i ks) (drop i ws) (choice_of (length ws - i) x) ≡ cond (odd (x / 2 ^ b) && eqb (get_or ks i 0) k) (get_or ws i 0) 0 + weight_of_kind k (drop (i + 1) ks) (drop (i + 1) ws) (choice_of (length ws - (i + 1)) x)
  next_pan k = rw (add-one i, drop-cons ks i 0 (omega arith), drop-cons ws i 0 l, more, last) refl
    where
      more : length ws - i ≡ suc b
      more = omega arith

      last : length ws - suc i ≡ b
      last = omega arith

  pub summed_more : (sums : List ℕ) → get_or ks i 0 < 4 → Summed ks ws x i sums → Summed ks ws x (i + 1) (set sums (get_or ks i 0) (get_or sums (get_or ks i 0) 0 + get_or ws i 0 * (x / 2 ^ b % 2)))
  summed_more sums few h =
      record {
        long = length-set sums _ _ ∙ h.long;
        whole = λ k m. ⊎_elim (same k m) (other k m) (cases_eq q k);
      }
    where
      q : ℕ
      q = get_or ks i 0

      y : ℕ
      y = get_or sums q 0 + get_or ws i 0 * (x / 2 ^ b % 2)

      same : (k : ℕ) → k < 4 → q ≡ k → get_or (set sums q y) k 0 + weight_of_kind k (drop (i + 1) ks) (drop (i + 1) ws) (choice_of (length ws - (i + 1)) x) ≡ weight_of_kind k ks ws (choice_of (length ws) x)
      same k m e =
          let a : get_or (set sums q y) k 0 ≡ y = get_or-set_at sums q k y 0 (sym e) (omega (arith, h.long)) in
          let c : get_or sums q 0 ≡ get_or sums k 0 = ap (λ (j : ℕ). get_or sums j 0) e in
          omega (arith, a, c, h.whole k m, next_pan k, gain_same (x / 2 ^ b) q k (get_or ws i 0) e)

      other : (k : ℕ) → k < 4 → (q ≡ k → ⊥) → get_or (set sums q y) k 0 + weight_of_kind k (drop (i + 1) ks) (drop (i + 1) ws) (choice_of (length ws - (i + 1)) x) ≡ weight_of_kind k ks ws (choice_of (length ws) x)
      other k m ne =
          let a : get_or (set sums q y) k 0 ≡ get_or sums k 0 = get_or-set_other sums q k y 0 (λ e. ne (sym e)) in
          omega (arith, a, h.whole k m, next_pan k, gain_other (x / 2 ^ b) q k (get_or ws i 0) ne)

  -- the sums stay small
  pub sums_fit : (sums : List ℕ) → ((j : ℕ) → get_or ws j 0 ≤ 1000000) → length ws ≤ 24 → get_or ks i 0 < 4 → Summed ks ws x i sums → get_or sums (get_or ks i 0) 0 + get_or ws i 0 * (x / 2 ^ b % 2) ≤ 24000000
  sums_fit sums light few known h =
      let k = get_or ks i 0 in
      omega (arith, h.whole k known, next_pan k, gain_same (x / 2 ^ b) k k (get_or ws i 0) refl, kind_fits k ks ws x light few)

-- each kind has no more in a choice than in one that opens all that it opens
pub kind_opens : (k : ℕ) (ks ws : List ℕ) (n a b : ℕ) → Opens a b → weight_of_kind k ks ws (choice_of n a) ≤ weight_of_kind k ks ws (choice_of n b)
kind_opens k ks ws n a b h = rw (of_kind_weighs k ks ws (choice_of n a), of_kind_weighs k ks ws (choice_of n b)) (opens_weight (of_kind k ks ws) n a b h)
