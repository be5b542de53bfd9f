-- Laws of places: their parts, their bounds, and that the order of choices is the order of their places.
use Rattle.std.proofs.Common.{◌≡◌, ℕ, suc, ◌+◌, ◌*◌, ◌/◌, ◌%◌, ◌^◌, ◌<◌, ◌≤◌, true, false, cond, ◌&&◌, ◌||◌, eqb, ltb, List, [], ◌∷◌, length, get_or, sym, refl, ap, ◌∙◌, arith, pow_mono}
use native.Mathlib.Nat.{pow-succ'}
use Rattle.std.proofs.lemmas.Bool.Decides.{nat_tests}
use Rattle.std.proofs.lemmas.Nat.{pow_pos, pow_below}
use Rattle.std.proofs.lemmas.Bool.{and_parts, both_ways}
use Rattle.choices.specs.Choice.{Choice, weight_of, opened}
use Rattle.choices.proofs.Choices.{opened_le}
use Rattle.choices.proofs.Numbers.{code}
use Rattle.order.specs.Order.{better}
use Rattle.order.proofs.Orders.{better_is}
use Rattle.halves_places.specs.Place.{by_ways, place, pans_in}
use Rattle.halves_places.specs.declared.way.Way.{Way}

-- the bits of the shut pans, with b pans behind
abbrev pub shut : ℕ → Choice → ℕ
shut b [] = 0
shut b (c ∷ cs) = cond c 0 (2 ^ (b + length cs)) + shut b cs

pub pow_more : (b n : ℕ) → 2 ^ (b + suc n) ≡ 2 * 2 ^ (b + n)
pow_more b n = let e : b + suc n ≡ suc (b + n) = omega arith in rw e (pow-succ' 2 (b + n))

pub shut_below : (b : ℕ) (cs : Choice) → shut b cs < 2 ^ (b + length cs)
shut_below b [] = pow_pos (b + 0)
shut_below b (true ∷ cs) = rw (pow_more b (length cs)) (omega (arith, shut_below b cs))
shut_below b (false ∷ cs) = rw (pow_more b (length cs)) (omega (arith, shut_below b cs))

pub length_by_ways : (vs : List Way) (cs : Choice) → by_ways vs cs ≡ true → length cs ≡ length vs
length_by_ways [] [] h = refl
length_by_ways [] (c ∷ cs) h = absurd (both_ways false refl h)
length_by_ways (v ∷ vs) [] h = absurd (both_ways false refl h)
length_by_ways (v ∷ vs) (c ∷ cs) h = ap suc (length_by_ways vs cs (and_parts _ _ h).1)

pub place_is : (b : ℕ) (ws : List ℕ) (cs : Choice) → length cs ≡ length ws → place b ws cs ≡ weight_of ws cs * 2 ^ 29 + opened cs * 2 ^ 24 + shut b cs
place_is b [] [] e = refl
place_is b [] (c ∷ cs) e = absurd (omega arith)
place_is b (w ∷ ws) [] e = absurd (omega arith)
place_is b (w ∷ ws) (true ∷ cs) e = omega (arith, place_is b ws cs (omega arith))
place_is b (w ∷ ws) (false ∷ cs) e = omega (arith, place_is b ws cs (omega arith))

-- the parts of a place, whatever is added in the lowest bits
pub digits : (w o s : ℕ) → o < 32 → s < 2 ^ 24 → ((w * 2 ^ 29 + o * 2 ^ 24 + s) / 2 ^ 29 ≡ w) × (pans_in (w * 2 ^ 29 + o * 2 ^ 24 + s) ≡ o) × ((w * 2 ^ 29 + o * 2 ^ 24 + s) % 2 ^ 24 ≡ s)
digits w o s h l = (omega arith, omega arith, omega arith)

-- a pan that is opened adds at least what it adds when it stays shut
pub shut_le : (b : ℕ) (cs : Choice) → b + length cs < 24 → 2 ^ (b + length cs) ≤ 2 ^ 24
shut_le b cs h = omega (arith, pow_below (b + length cs) 24 h)

-- the weight and the count in the place of some pans, with r in the lowest bits
pub in_place : (b r : ℕ) (ws : List ℕ) (cs : Choice) → length cs ≡ length ws → length ws ≤ 24 → r + 2 ^ (b + length ws) ≤ 2 ^ 24 → ((place b ws cs + r) / 2 ^ 29 ≡ weight_of ws cs) × (pans_in (place b ws cs + r) ≡ opened cs)
in_place b r ws cs e few h =
    let s : shut b cs + r < 2 ^ 24 = omega (arith, shut_below b cs, ap (λ (n : ℕ). 2 ^ (b + n)) e) in
    let d : place b ws cs + r ≡ weight_of ws cs * 2 ^ 29 + opened cs * 2 ^ 24 + (shut b cs + r) = omega (arith, place_is b ws cs e) in
    let x = digits (weight_of ws cs) (opened cs) (shut b cs + r) (omega (arith, opened_le cs)) s in
    rw d (x.0, x.1)

pub place_below : (b : ℕ) (ws : List ℕ) (cs : Choice) → ((i : ℕ) → get_or ws i 0 ≤ 1000000) → b + length ws ≤ 24 → length cs ≡ length ws → place b ws cs ≤ length ws * 2 ^ 50
place_below b [] [] light h e = omega arith
place_below b [] (c ∷ cs) light h e = absurd (omega arith)
place_below b (w ∷ ws) [] light h e = absurd (omega arith)
place_below b (w ∷ ws) (true ∷ cs) light h e = omega (arith, light 0, place_below b ws cs (λ i. light (suc i)) (omega arith) (omega arith))
place_below b (w ∷ ws) (false ∷ cs) light h e = omega (arith, shut_le b cs (omega arith), place_below b ws cs (λ i. light (suc i)) (omega arith) (omega arith))

-- the bits of the shut and of the opened pans make all bits
pub shut_code : (cs : Choice) → shut 0 cs + code cs + 1 ≡ 2 ^ length cs
shut_code [] = refl
shut_code (true ∷ cs) = rw (pow-succ' 2 (length cs)) (omega (arith, shut_code cs))
shut_code (false ∷ cs) =
    let e : 2 ^ (0 + length cs) ≡ 2 ^ length cs = ap (λ (n : ℕ). 2 ^ n) (omega arith) in
    rw (pow-succ' 2 (length cs)) (omega (arith, shut_code cs))

by_digits :
    (w o s k w' o' s' k' : ℕ) → o < 32 → o' < 32 → s < 2 ^ 24 → s' < 2 ^ 24 → s + k ≡ s' + k' →
    (ltb w w' || (eqb w w' && (ltb o o' || (eqb o o' && ltb k' k)))) ≡ ltb (w * 2 ^ 29 + o * 2 ^ 24 + s) (w' * 2 ^ 29 + o' * 2 ^ 24 + s')
by_digits w o s k w' o' s' k' a b d e f = grind (arith, nat_tests)

-- the order of choices is the order of their places
pub better_place : (ws : List ℕ) (cs ds : Choice) → length ws ≤ 24 → length cs ≡ length ws → length ds ≡ length ws → better ws cs ds ≡ ltb (place 0 ws cs) (place 0 ws ds)
better_place ws cs ds few e f =
    let c : 2 ^ length cs ≡ 2 ^ length ws = ap (λ (n : ℕ). 2 ^ n) e in
    let d : 2 ^ length ds ≡ 2 ^ length ws = ap (λ (n : ℕ). 2 ^ n) f in
    let p : 2 ^ length ws ≤ 2 ^ 24 = pow_mono few in
    better_is ws cs ds (e ∙ sym f) ∙ rw (place_is 0 ws cs e, place_is 0 ws ds f)
    (by_digits (weight_of ws cs) (opened cs) (shut 0 cs) (code cs) (weight_of ws ds) (opened ds) (shut 0 ds) (code ds) (omega (arith, opened_le cs)) (omega (arith, opened_le ds))
    (omega (arith, shut_code cs)) (omega (arith, shut_code ds)) (omega (arith, shut_code cs, shut_code ds)))

-- the weight and the count in the place of a choice of all pans
pub place_says :
    (ws : List ℕ) (cs : Choice) → length ws ≤ 24 → length cs ≡ length ws →
    (place 0 ws cs / 2 ^ 29 ≡ weight_of ws cs) × (pans_in (place 0 ws cs) ≡ opened cs) × (place 0 ws cs % 2 ^ 24 ≡ shut 0 cs)
place_says ws cs few e =
    let c : 2 ^ length cs ≡ 2 ^ length ws = ap (λ (n : ℕ). 2 ^ n) e in
    let p : 2 ^ length ws ≤ 2 ^ 24 = pow_mono few in
    rw (place_is 0 ws cs e) (digits (weight_of ws cs) (opened cs) (shut 0 cs) (omega (arith, opened_le cs)) (omega (arith, shut_code cs)))
