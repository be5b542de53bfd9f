-- Entries in parts of a room: what stands at their places is all that counts.
use Rattle.std.proofs.Common.{◌≡◌, ℕ, ◌+◌, ◌-◌, ◌^◌, ◌<◌, ◌≤◌, List, length, get_or, take, drop, sym, ◌∙◌, ⊎_elim, arith, pow_mono}
use Rattle.std.proofs.lemmas.Bool.{cases_lt}
use Rattle.std.proofs.lemmas.List.{get_or-take, get_or-drop, get_or_past, length-take, length-take-le}
use Rattle.halves_places.specs.declared.way.Way.{Way}
use Rattle.halves_growth.specs.Part.{Part}
use Rattle.halves_sieves.specs.declared.bounds.Bounds.{Bounds}
use Rattle.halves.specs.Half.{Half}
use Rattle.halves.specs.Entries.{half_of}

-- what no pan of the ring passes no pan of a part passes
pub heavy_take : (m n : ℕ) (ws : List ℕ) → ((i : ℕ) → get_or ws i 0 ≤ m) → (i : ℕ) → get_or (take n ws) i 0 ≤ m
heavy_take m n ws h i =
    ⊎_elim (λ l. rw (get_or-take n ws i 0 l) (h i)) (λ l. omega (arith, get_or_past (take n ws) i 0 (omega (arith, length-take n ws)))) (cases_lt i n)

pub heavy_drop : (m n : ℕ) (ws : List ℕ) → ((i : ℕ) → get_or ws i 0 ≤ m) → (i : ℕ) → get_or (drop n ws) i 0 ≤ m
heavy_drop m n ws h i = rw (get_or-drop n ws i 0) (h (n + i))

pub half_same :
    (lim : Bounds) (ws : List ℕ) (vs : List Way) (skip len : ℕ) (es es' : List ℕ) (n : ℕ) → Half lim ws vs skip len es n → ((p : ℕ) → p < n → get_or es' p 0 ≡ get_or es p 0) → Half lim ws vs skip len es' n
half_same lim ws vs skip len es es' n h same =
    record {
      few = h.few;
      rises = λ p q a l. omega (arith, same p (omega arith), same q l, h.rises p q a l);
      every = λ cs w. let x = h.every cs w in (x.0, x.1, same x.0 x.1 ∙ x.2);
      only = λ q l. let x = h.only q l in (x.0, x.1, x.2 ∙ sym (same q l));
    }

-- as the part of the room that holds it and nothing else
pub half_whole :
    (lim : Bounds) (ws : List ℕ) (vs : List Way) (skip len : ℕ) (es : List ℕ) (n : ℕ) → n ≤ length es → Half lim ws vs skip len es n → Half lim ws vs skip len (take n es) (length (take n es))
half_whole lim ws vs skip len es n room h =
    let e : length (take n es) ≡ n = length-take-le n es room in
    rw e (half_same lim ws vs skip len es (take n es) n h (λ p l. get_or-take n es p 0 l))

pub part_whole : (b r to : ℕ) (ws : List ℕ) (vs : List Way) (es : List ℕ) (n : ℕ) → n ≤ length es → Part b r to ws vs es n → Part b r to ws vs (take n es) (length (take n es))
part_whole b r to ws vs es n room h =
    let e : length (take n es) ≡ n = length-take-le n es room in
    rw e (record {
      few = h.few;
      rises = λ p q a l. omega (arith, get_or-take n es p 0 (omega arith), get_or-take n es q 0 l, h.rises p q a l);
      every = λ cs w l. let x = h.every cs w l in (x.0, x.1, get_or-take n es x.0 0 x.1 ∙ x.2);
      only = λ q l. let x = h.only q l in (x.0, x.1, x.2 ∙ sym (get_or-take n es q 0 l));
    })

-- one or two pans stand before the halves
pub few_tops : (n h : ℕ) → h ≡ half_of n → 2 ^ (n - (h + h)) ≤ 4
few_tops n h e = let p : 2 ^ (n - (h + h)) ≤ 2 ^ 2 = pow_mono {j = 2} (omega arith) in p
