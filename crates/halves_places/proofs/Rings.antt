-- From a place back to its choice, and from a rule to ways.
use Rattle.std.proofs.Common.{◌≡◌, ℕ, zero, suc, ◌+◌, ◌-◌, ◌*◌, ◌%◌, ◌^◌, ◌<◌, ◌≤◌, Bool, true, false, ◌&&◌, ltb, leb, List, [], ◌∷◌, length, get_or, take, sym, refl, ap, ◌∙◌, mul_assoc, arith}
use Rattle.std.proofs.lemmas.Nat.{pow-add, mod_low}
use Rattle.std.proofs.lemmas.List.{length-take-le, get_or-take, same_lists}
use Rattle.choices.specs.Choice.{Choice, weight_of, opened, none_empty, keeps_old}
use Rattle.choices.specs.Numbered.{choice_of, number_of}
use Rattle.choices.proofs.Numbers.{code, choice_of_code}
use Rattle.halves_places.specs.Place.{by_ways, place}
use Rattle.halves_places.specs.Ring.{way, ways}
use Rattle.halves_places.specs.declared.way.Way.{Way}
use Rattle.halves_places.proofs.Places.{shut, shut_code, place_is}

-- the lowest bits of a place tell which pans are shut, and so which are opened
pub lowest : (ws : List ℕ) (cs : Choice) (n : ℕ) → n ≤ 24 → length ws ≡ n → length cs ≡ n → 2 ^ n - 1 - place 0 ws cs % 2 ^ n ≡ code cs
lowest ws cs n few e f =
    let p : 2 ^ length cs ≡ 2 ^ n = ap (λ (m : ℕ). 2 ^ m) f in
    let q : 2 ^ (24 - n) * 2 ^ n ≡ 2 ^ 24 = sym (pow-add 2 (24 - n) n) ∙ ap (λ (m : ℕ). 2 ^ m) {y = 24} (omega arith) in
    let w = weight_of ws cs * 32 + opened cs in
    let x : place 0 ws cs ≡ (w * 2 ^ (24 - n)) * 2 ^ n + shut 0 cs =
    omega (arith, place_is 0 ws cs (f ∙ sym e), mul_assoc w (2 ^ (24 - n)) (2 ^ n), ap (λ (m : ℕ). w * m) q) in
    let y : place 0 ws cs % 2 ^ n ≡ shut 0 cs = ap (λ (m : ℕ). m % 2 ^ n) x ∙ mod_low (w * 2 ^ (24 - n)) n (shut 0 cs) (omega (arith, shut_code cs)) in
    omega (arith, shut_code cs)

pub opened_pans : (ws : List ℕ) (cs : Choice) (n : ℕ) → n ≤ 24 → length ws ≡ n → length cs ≡ n → number_of (choice_of n (2 ^ n - 1 - place 0 ws cs % 2 ^ n)) ≡ number_of cs
opened_pans ws cs n few e f =
    rw (lowest ws cs n few e f) (ap number_of (ap (λ (m : ℕ). choice_of m (code cs)) (sym f) ∙ choice_of_code cs))

-- a choice is by a ring's ways just where it opens no empty pan and every old one
pub by_ring : (old : ℕ) (ws as' : List ℕ) (cs : Choice) → length as' ≡ length ws → length cs ≡ length ws → by_ways (ways old ws as') cs ≡ (none_empty ws cs && keeps_old old as' cs)
by_ring old [] [] [] e f = refl
by_ring old [] [] (c ∷ cs) e f = absurd (omega arith)
by_ring old [] (a ∷ as') cs e f = absurd (omega arith)
by_ring old (w ∷ ws) [] cs e f = absurd (omega arith)
by_ring old (w ∷ ws) (a ∷ as') [] e f = absurd (omega arith)
by_ring old (w ∷ ws) (a ∷ as') (true ∷ cs) e f = ap (λ (b : Bool). leb 1 w && b) (by_ring old ws as' cs (omega arith) (omega arith)) ∙ shift (leb 1 w) (none_empty ws cs) (keeps_old old as' cs)
  where
    shift : (a b d : Bool) → (a && (b && d)) ≡ ((a && b) && d)
    shift true b d = refl
    shift false b d = refl
by_ring old (w ∷ ws) (a ∷ as') (false ∷ cs) e f = ap (λ (b : Bool). ltb a old && b) (by_ring old ws as' cs (omega arith) (omega arith)) ∙ shift (ltb a old) (none_empty ws cs) (keeps_old old as' cs)
  where
    shift : (a b d : Bool) → (a && (b && d)) ≡ (b && (a && d))
    shift true b d = refl
    shift false true d = refl
    shift false false d = refl

pub length_ways : (old : ℕ) (ws as' : List ℕ) → length as' ≡ length ws → length (ways old ws as') ≡ length ws
length_ways old [] as' e = refl
length_ways old (w ∷ ws) [] e = absurd (omega arith)
length_ways old (w ∷ ws) (a ∷ as') e = ap suc (length_ways old ws as' (omega arith))

pub ways_at : (old : ℕ) (ws as' : List ℕ) (i : ℕ) (d : Way) → length as' ≡ length ws → i < length ws → get_or (ways old ws as') i d ≡ way old (get_or ws i 0) (get_or as' i 0)
ways_at old [] as' i d e l = absurd (omega arith)
ways_at old (w ∷ ws) [] i d e l = absurd (omega arith)
ways_at old (w ∷ ws) (a ∷ as') zero d e l = refl
ways_at old (w ∷ ws) (a ∷ as') (suc i) d e l = ways_at old ws as' i d (omega arith) (omega arith)

-- ways that were made one by one
pub ways_made :
    (old : ℕ) (ws as' : List ℕ) (made : List Way) → length as' ≡ length ws → length ws ≤ length made →
    ((k : ℕ) (d : Way) → k < length ws → get_or made k d ≡ way old (get_or ws k 0) (get_or as' k 0)) → take (length ws) made ≡ ways old ws as'
ways_made old ws as' made e room each =
    let long : length (take (length ws) made) ≡ length ws = length-take-le (length ws) made room in
    same_lists _ _ (long ∙ sym (length_ways old ws as' e))
    (λ k d l. get_or-take (length ws) made k d (omega arith) ∙ (each k d (omega arith) ∙ sym (ways_at old ws as' k d e (omega arith))))
