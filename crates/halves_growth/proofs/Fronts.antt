-- The first entries of a slice, taken by themselves.
use Rattle.std.proofs.Common.{◌≡◌, ℕ, ◌+◌, ◌-◌, ◌<◌, ◌≤◌, List, ◌++◌, length, get_or, take, drop, ap, ◌∙◌, arith}
use Rattle.std.proofs.lemmas.List.{get_or-take, get_or-drop, get_or_append_left, get_or-append_right, length-take, length-take-le}
use Rattle.halves_growth.specs.Entries.{Rises, Opening}
use Rattle.halves_places.specs.declared.way.Way.{Way}

pub rises_front : (es : List ℕ) (n : ℕ) → Rises es n → Rises (take n es) (length (take n es))
rises_front es n h p q a b =
    let l : q < n = omega (arith, length-take n es) in
    rw (get_or-take n es p 0 (omega arith), get_or-take n es q 0 l) (h p q a l)

pub opening_front : (to : ℕ) (v : Way) (gain : ℕ) (es : List ℕ) (n m : ℕ) → n ≤ length es → Opening to v gain (take n es) (length (take n es)) m → Opening to v gain es n m
opening_front to v gain es n m room h =
    record {
      few = omega (arith, h.few, length-take-le n es room);
      opens = h.opens;
      all = λ o p l b. h.all o p (omega (arith, length-take-le n es room)) (omega (arith, get_or-take n es p 0 l));
    }

-- the same where they were raised
pub raised_front :
    (es bs : List ℕ) (k gain : ℕ) → k ≤ length es → length bs ≡ length (take k es) → ((p : ℕ) → p < length (take k es) → get_or bs p 0 ≡ get_or (take k es) p 0 + gain) →
    (p : ℕ) → p < k → get_or (bs ++ drop k es) p 0 ≡ get_or es p 0 + gain
raised_front es bs k gain room long h p l =
    let e : length (take k es) ≡ k = length-take-le k es room in
    omega (arith, get_or_append_left bs (drop k es) 0 p (omega arith), h p (omega arith), get_or-take k es p 0 l)

pub rest_front : (es bs : List ℕ) (k : ℕ) → length bs ≡ k → (q : ℕ) → k ≤ q → get_or (bs ++ drop k es) q 0 ≡ get_or es q 0
rest_front es bs k long q l =
    let e : k + (q - k) ≡ q = omega arith in
    get_or-append_right bs (drop k es) k q 0 long l ∙ (get_or-drop k es (q - k) 0 ∙ ap (λ (m : ℕ). get_or es m 0) e)
