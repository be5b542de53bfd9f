-- Sums over the opened pans of some kinds: kinds together, choices put together kind by kind, all kinds.
use Rattle.std.proofs.Common.{◌≡◌, ℕ, zero, suc, ◌+◌, ◌*◌, ◌^◌, ◌<◌, ◌≤◌, Bool, true, false, cond, ◌&&◌, eqb, ltb, leb, List, [], ◌∷◌, length, get_or, refl, ap, ap₂, ◌∙◌, arith}
use native.Mathlib.Nat.{pow-succ'}
use Rattle.std.proofs.lemmas.Bool.Decides.{nat_tests}
use Rattle.std.proofs.lemmas.Bool.{and_from}
use Rattle.std.proofs.lemmas.Nat.{pow_below}
use Rattle.choices.specs.Choice.{Choice, weight_of}
use Rattle.kinds.specs.Kinds.{weight_of_kind}
use Rattle.halves_places.specs.Place.{by_ways, place}
use Rattle.halves_places.specs.Ring.{ways}
use Rattle.kinds_table.specs.Costs.{gains, on_kinds, lawful, is, below}

and_false : (c : Bool) → (c && false) ≡ false
and_false true = refl
and_false false = refl

and_true : (c : Bool) → (c && true) ≡ c
and_true true = refl
and_true false = refl

-- ---- the kinds before the next one are those before this one and this one
below_next : (k q : ℕ) (x : ℕ) (c : Bool) → cond (c && ltb q (suc k)) x 0 ≡ cond (c && ltb q k) x 0 + cond (c && eqb q k) x 0
below_next k q x false = refl
below_next k q x true = grind (arith, nat_tests)

pub on_next : (k : ℕ) (ks xs : List ℕ) (cs : Choice) → on_kinds (below (suc k)) ks xs cs ≡ on_kinds (below k) ks xs cs + on_kinds (is k) ks xs cs
on_next k [] xs cs = refl
on_next k (q ∷ ks) [] cs = refl
on_next k (q ∷ ks) (x ∷ xs) [] = refl
on_next k (q ∷ ks) (x ∷ xs) (c ∷ cs) = omega (arith, on_next k ks xs cs, below_next k q x c)

law_next : (k q : ℕ) (b : Bool) → cond (ltb q (suc k)) b true ≡ (cond (ltb q k) b true && cond (eqb q k) b true)
law_next k q true = grind (arith, nat_tests)
law_next k q false = grind (arith, nat_tests)

pub lawful_next :
    (k old : ℕ) (ks ws as' : List ℕ) (cs : Choice) → lawful (below (suc k)) old ks ws as' cs ≡ (lawful (below k) old ks ws as' cs && lawful (is k) old ks ws as' cs)
lawful_next k old [] ws as' cs = refl
lawful_next k old (q ∷ ks) [] as' cs = refl
lawful_next k old (q ∷ ks) (w ∷ ws) [] cs = refl
lawful_next k old (q ∷ ks) (w ∷ ws) (a ∷ as') [] = refl
lawful_next k old (q ∷ ks) (w ∷ ws) (a ∷ as') (c ∷ cs) =
    ap₂ ◌&&◌ (law_next k q (cond c (leb 1 w) (ltb a old))) (lawful_next k old ks ws as' cs)
    ∙ swap (cond (ltb q k) (cond c (leb 1 w) (ltb a old)) true) (cond (eqb q k) (cond c (leb 1 w) (ltb a old)) true) (lawful (below k) old ks ws as' cs) (lawful (is k) old ks ws as' cs)
  where
    swap : (a b d e : Bool) → ((a && b) && (d && e)) ≡ ((a && d) && (b && e))
    swap false b d e = refl
    swap true true d e = refl
    swap true false true e = refl
    swap true false false e = refl

-- ---- before kind 0 there is none
pub on_none : (ks xs : List ℕ) (cs : Choice) → on_kinds (below 0) ks xs cs ≡ 0
on_none [] xs cs = refl
on_none (q ∷ ks) [] cs = refl
on_none (q ∷ ks) (x ∷ xs) [] = refl
on_none (q ∷ ks) (x ∷ xs) (c ∷ cs) = omega (arith, on_none ks xs cs, part c q)
  where
    part : (c : Bool) (q : ℕ) → cond (c && ltb q 0) x 0 ≡ 0
    part false q = refl
    part true q = grind (arith, nat_tests)

pub lawful_none : (old : ℕ) (ks ws as' : List ℕ) (cs : Choice) → lawful (below 0) old ks ws as' cs ≡ true
lawful_none old [] ws as' cs = refl
lawful_none old (q ∷ ks) [] as' cs = refl
lawful_none old (q ∷ ks) (w ∷ ws) [] cs = refl
lawful_none old (q ∷ ks) (w ∷ ws) (a ∷ as') [] = refl
lawful_none old (q ∷ ks) (w ∷ ws) (a ∷ as') (c ∷ cs) = and_from _ _ (part q (cond c (leb 1 w) (ltb a old))) (lawful_none old ks ws as' cs)
  where
    part : (q : ℕ) (b : Bool) → cond (ltb q 0) b true ≡ true
    part q b = grind (arith, nat_tests)

-- ---- two choices that are the same in the pans of these kinds
abbrev pub Alike : (ℕ → Bool) → List ℕ → (cs es : Choice) → Type 0
Alike on ks cs es = (i : ℕ) → i < length ks → on (get_or ks i 0) ≡ true → get_or cs i false ≡ get_or es i false

pub alike_sum : (on : ℕ → Bool) (ks xs : List ℕ) (cs es : Choice) → length cs ≡ length es → Alike on ks cs es → on_kinds on ks xs cs ≡ on_kinds on ks xs es
alike_sum on [] xs cs es e h = refl
alike_sum on (q ∷ ks) [] cs es e h = refl
alike_sum on (q ∷ ks) (x ∷ xs) [] [] e h = refl
alike_sum on (q ∷ ks) (x ∷ xs) [] (d ∷ es) e h = absurd (omega arith)
alike_sum on (q ∷ ks) (x ∷ xs) (c ∷ cs) [] e h = absurd (omega arith)
alike_sum on (q ∷ ks) (x ∷ xs) (c ∷ cs) (d ∷ es) e h = omega (arith, alike_sum on ks xs cs es (omega arith) (λ i l. h (suc i) (omega arith)), part (on q) (h 0 (omega arith)))
  where
    part : (o : Bool) → (o ≡ true → c ≡ d) → cond (c && o) x 0 ≡ cond (d && o) x 0
    part true g = rw (g refl) refl
    part false g = rw (and_false c, and_false d) refl

pub alike_lawful : (on : ℕ → Bool) (old : ℕ) (ks ws as' : List ℕ) (cs es : Choice) → length cs ≡ length es → Alike on ks cs es → lawful on old ks ws as' cs ≡ lawful on old ks ws as' es
alike_lawful on old [] ws as' cs es e h = refl
alike_lawful on old (q ∷ ks) [] as' cs es e h = refl
alike_lawful on old (q ∷ ks) (w ∷ ws) [] cs es e h = refl
alike_lawful on old (q ∷ ks) (w ∷ ws) (a ∷ as') [] [] e h = refl
alike_lawful on old (q ∷ ks) (w ∷ ws) (a ∷ as') [] (d ∷ es) e h = absurd (omega arith)
alike_lawful on old (q ∷ ks) (w ∷ ws) (a ∷ as') (c ∷ cs) [] e h = absurd (omega arith)
alike_lawful on old (q ∷ ks) (w ∷ ws) (a ∷ as') (c ∷ cs) (d ∷ es) e h =
    ap₂ ◌&&◌ (part (on q) (h 0 (omega arith))) (alike_lawful on old ks ws as' cs es (omega arith) (λ i l. h (suc i) (omega arith)))
  where
    part : (o : Bool) → (o ≡ true → c ≡ d) → cond o (cond c (leb 1 w) (ltb a old)) true ≡ cond o (cond d (leb 1 w) (ltb a old)) true
    part true g = rw (g refl) refl
    part false g = refl

-- ---- the choice with this kind's pans from ds and all others from cs
abbrev pub merge : ℕ → List ℕ → (cs ds : Choice) → Choice
merge k [] cs ds = cs
merge k (q ∷ ks) [] ds = []
merge k (q ∷ ks) (c ∷ cs) [] = c ∷ cs
merge k (q ∷ ks) (c ∷ cs) (d ∷ ds) = cond (eqb q k) d c ∷ merge k ks cs ds

pub length_merge : (k : ℕ) (ks : List ℕ) (cs ds : Choice) → length (merge k ks cs ds) ≡ length cs
length_merge k [] cs ds = refl
length_merge k (q ∷ ks) [] ds = refl
length_merge k (q ∷ ks) (c ∷ cs) [] = refl
length_merge k (q ∷ ks) (c ∷ cs) (d ∷ ds) = ap suc (length_merge k ks cs ds)

merge_at :
    (k : ℕ) (ks : List ℕ) (cs ds : Choice) (i : ℕ) → length cs ≡ length ds → i < length ks →
    get_or (merge k ks cs ds) i false ≡ cond (eqb (get_or ks i 0) k) (get_or ds i false) (get_or cs i false)
merge_at k [] cs ds i e l = absurd (omega arith)
merge_at k (q ∷ ks) [] [] i e l = same (eqb (get_or (q ∷ ks) i 0) k)
  where
    same : (b : Bool) → false ≡ cond b false false
    same true = refl
    same false = refl
merge_at k (q ∷ ks) [] (d ∷ ds) i e l = absurd (omega arith)
merge_at k (q ∷ ks) (c ∷ cs) [] i e l = absurd (omega arith)
merge_at k (q ∷ ks) (c ∷ cs) (d ∷ ds) zero e l = refl
merge_at k (q ∷ ks) (c ∷ cs) (d ∷ ds) (suc i) e l = merge_at k ks cs ds i (omega arith) (omega arith)

pub merge_takes : (on : ℕ → Bool) (k : ℕ) (ks : List ℕ) (cs ds : Choice) → length cs ≡ length ds → ((q : ℕ) → on q ≡ true → eqb q k ≡ true) → Alike on ks (merge k ks cs ds) ds
merge_takes on k ks cs ds e h i l o = merge_at k ks cs ds i e l ∙ rw (h _ o) refl

pub merge_keeps : (on : ℕ → Bool) (k : ℕ) (ks : List ℕ) (cs ds : Choice) → length cs ≡ length ds → ((q : ℕ) → on q ≡ true → eqb q k ≡ false) → Alike on ks (merge k ks cs ds) cs
merge_keeps on k ks cs ds e h i l o = merge_at k ks cs ds i e l ∙ rw (h _ o) refl

-- ---- all kinds
pub on_all : (on : ℕ → Bool) (ks xs : List ℕ) (cs : Choice) → length ks ≡ length xs → ((i : ℕ) → i < length ks → on (get_or ks i 0) ≡ true) → on_kinds on ks xs cs ≡ weight_of xs cs
on_all on [] [] cs e h = refl
on_all on [] (x ∷ xs) cs e h = absurd (omega arith)
on_all on (q ∷ ks) [] cs e h = absurd (omega arith)
on_all on (q ∷ ks) (x ∷ xs) [] e h = refl
on_all on (q ∷ ks) (x ∷ xs) (c ∷ cs) e h = rw (h 0 (omega arith), and_true c) (omega (arith, on_all on ks xs cs (omega arith) (λ i l. h (suc i) (omega arith))))

pub lawful_all :
    (on : ℕ → Bool) (old : ℕ) (ks ws as' : List ℕ) (cs : Choice) → length ks ≡ length ws → length as' ≡ length ws → length cs ≡ length ws →
    ((i : ℕ) → i < length ks → on (get_or ks i 0) ≡ true) → lawful on old ks ws as' cs ≡ by_ways (ways old ws as') cs
lawful_all on old [] [] as' [] e f g h = refl
lawful_all on old [] [] as' (c ∷ cs) e f g h = absurd (omega arith)
lawful_all on old [] (w ∷ ws) as' cs e f g h = absurd (omega arith)
lawful_all on old (q ∷ ks) [] as' cs e f g h = absurd (omega arith)
lawful_all on old (q ∷ ks) (w ∷ ws) [] cs e f g h = absurd (omega arith)
lawful_all on old (q ∷ ks) (w ∷ ws) (a ∷ as') [] e f g h = absurd (omega arith)
lawful_all on old (q ∷ ks) (w ∷ ws) (a ∷ as') (c ∷ cs) e f g h =
    rw (h 0 (omega arith)) (ap (λ (b : Bool). cond c (leb 1 w) (ltb a old) && b) (lawful_all on old ks ws as' cs (omega arith) (omega arith) (omega arith) (λ i l. h (suc i) (omega arith))))

pub on_is : (k : ℕ) (ks ws : List ℕ) (cs : Choice) → weight_of_kind k ks ws cs ≡ on_kinds (is k) ks ws cs
on_is k [] ws cs = refl
on_is k (q ∷ ks) [] cs = refl
on_is k (q ∷ ks) (w ∷ ws) [] = refl
on_is k (q ∷ ks) (w ∷ ws) (c ∷ cs) = omega (arith, on_is k ks ws cs)

-- ---- a choice's place, by its weight and its cost
pub place_costs :
    (ws : List ℕ) (cs : Choice) → length ws ≤ 24 → length cs ≡ length ws →
    place 0 ws cs + 1 ≡ weight_of ws cs * 2 ^ 29 + weight_of (gains (length ws)) cs + 2 ^ length ws
place_costs [] [] few e = refl
place_costs [] (c ∷ cs) few e = absurd (omega arith)
place_costs (w ∷ ws) [] few e = absurd (omega arith)
place_costs (w ∷ ws) (true ∷ cs) few e = omega (arith, place_costs ws cs (omega arith) (omega arith), pow-succ' 2 (length ws), pow_below (length ws) 24 few)
place_costs (w ∷ ws) (false ∷ cs) few e =
    omega (arith, place_costs ws cs (omega arith) (omega arith), pow-succ' 2 (length ws), ap (λ (n : ℕ). 2 ^ n) {x = 0 + length cs} {y = length ws} (omega arith))
