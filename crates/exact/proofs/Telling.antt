-- Tables that are filled from the first pan to the last: what the bytes tell so far.
use Rattle.std.proofs.Common.{◌≡◌, ℕ, suc, ◌+◌, ◌-◌, ◌<◌, ◌≤◌, ◌⊎◌, List, length, get_or, get_or-set_same, get_or-set_other, length-take, drop, take, set, min, ◌≢◌, ◌∙◌, inl, inr, arith}
use Rattle.std.proofs.lemmas.Bool.{cases_lt, cases_eq}
use Rattle.std.proofs.lemmas.List.{get_or-take}
use Rattle.choices.specs.Choice.{Choice}
use Rattle.exact.specs.Few.{Makes, Heads, Tells, Sums, Marked}
use Rattle.exact.proofs.Leading.{headed, makes_headed, heads_drop, heads_undrop, heads_one, one_heads}

-- ---- bytes that are set

pub marked_same :
    {P Q : ℕ → Type 0} {byte : ℕ} {before after : List ℕ} → ((x : ℕ) → Q x → P x) → ((x : ℕ) → P x → Q x) → Marked P byte before after → Marked Q byte before after
marked_same {P} {Q} {byte} {before} {after} to from m = record { set = λ x room q. m.set x room (to x q); kept = λ x room. kept x (m.kept x room) }
  where
    kept :
        (x : ℕ) → (get_or after x 0 ≡ get_or before x 0) ⊎ ((get_or after x 0 ≡ byte) × P x) →
        (get_or after x 0 ≡ get_or before x 0) ⊎ ((get_or after x 0 ≡ byte) × Q x)
    kept x (inl same) = inl same
    kept x (inr set) = inr (set.0, from x set.1)

-- a weight's byte, or the last one
pub marked_one : (w byte : ℕ) (bytes : List ℕ) → 1 ≤ length bytes → Marked (λ x. w ≡ x) byte bytes (set bytes (min w (length bytes - 1)) byte)
marked_one w byte bytes room = record { set = λ x less is. here x (omega arith); kept = λ x less. kept x less (cases_eq x (min w (length bytes - 1))) }
  where
    here : (x : ℕ) → x ≡ min w (length bytes - 1) → get_or (set bytes (min w (length bytes - 1)) byte) x 0 ≡ byte
    here x e = rw e (get_or-set_same bytes (min w (length bytes - 1)) byte 0 (omega arith))

    kept :
        (x : ℕ) → x + 1 < length bytes → (x ≡ min w (length bytes - 1)) ⊎ (x ≢ min w (length bytes - 1)) →
        (get_or (set bytes (min w (length bytes - 1)) byte) x 0 ≡ get_or bytes x 0) ⊎ ((get_or (set bytes (min w (length bytes - 1)) byte) x 0 ≡ byte) × (w ≡ x))
    kept x less (inl e) = inr (here x e, omega arith)
    kept x less (inr e) = inl (get_or-set_other bytes (min w (length bytes - 1)) x byte 0 e)

pub marked_both :
    {P R Q : ℕ → Type 0} {byte : ℕ} {before mid after : List ℕ} → ((x : ℕ) → Q x → P x ⊎ R x) → ((x : ℕ) → P x → Q x) → ((x : ℕ) → R x → Q x) →
    length mid ≡ length before → Marked P byte before mid → Marked R byte mid after → Marked Q byte before after
marked_both {P} {R} {Q} {byte} {before} {mid} {after} parts one other same m n =
    record {
      set = λ x less q. set x less (parts x q);
      kept = λ x less. kept x (m.kept x less) (n.kept x (omega arith));
    }
  where
    set : (x : ℕ) → x + 1 < length before → P x ⊎ R x → get_or after x 0 ≡ byte
    set x less (inr r) = n.set x (omega arith) r
    set x less (inl p) = at (n.kept x (omega arith))
      where
        at : (get_or after x 0 ≡ get_or mid x 0) ⊎ ((get_or after x 0 ≡ byte) × R x) → get_or after x 0 ≡ byte
        at (inl e) = e ∙ m.set x less p
        at (inr e) = e.0

    kept :
        (x : ℕ) → (get_or mid x 0 ≡ get_or before x 0) ⊎ ((get_or mid x 0 ≡ byte) × P x) →
        (get_or after x 0 ≡ get_or mid x 0) ⊎ ((get_or after x 0 ≡ byte) × R x) →
        (get_or after x 0 ≡ get_or before x 0) ⊎ ((get_or after x 0 ≡ byte) × Q x)
    kept x (inl old) (inl e) = inl (e ∙ old)
    kept x (inr old) (inl e) = inr (e ∙ old.0, one x old.1)
    kept x old (inr e) = inr (e.0, other x e.1)

-- the sums with one pan more
pub marked_sum :
    {first byte i : ℕ} (ws : List ℕ) {before bytes : List ℕ} → i < length ws → 1 ≤ length before → length bytes ≡ length before →
    Marked (Sums first (take i ws)) byte before bytes →
    Marked (Sums first (take (i + 1) ws)) byte before (set bytes (min (first + get_or ws i 0) (length before - 1)) byte)
marked_sum {first} {byte} {i} ws {before} {bytes} within room same m =
    marked_both parts one other same m (rw same at (marked_one (first + get_or ws i 0) byte bytes (omega arith)))
  where
    parts : (x : ℕ) → Sums first (take (i + 1) ws) x → Sums first (take i ws) x ⊎ (first + get_or ws i 0 ≡ x)
    parts x s = at (cases_lt s.pan i)
      where
        at : (s.pan < i) ⊎ (i ≤ s.pan) → Sums first (take i ws) x ⊎ (first + get_or ws i 0 ≡ x)
        at (inl less) =
            inl (record { pan = s.pan; within = omega (arith, length-take i ws); is = omega (arith, s.is, get_or-take i ws s.pan 0, get_or-take (i + 1) ws s.pan 0) })
        at (inr more) =
            let e : s.pan ≡ i = omega (arith, s.within, length-take (i + 1) ws) in
            inr (omega (arith, rw e at s.is, get_or-take (i + 1) ws i 0))

    one : (x : ℕ) → Sums first (take i ws) x → Sums first (take (i + 1) ws) x
    one x s =
        record {
          pan = s.pan;
          within = omega (arith, s.within, length-take i ws, length-take (i + 1) ws);
          is = omega (arith, s.is, s.within, length-take i ws, get_or-take i ws s.pan 0, get_or-take (i + 1) ws s.pan 0);
        }

    other : (x : ℕ) → first + get_or ws i 0 ≡ x → Sums first (take (i + 1) ws) x
    other x e = record { pan = i; within = omega (arith, length-take (i + 1) ws); is = omega (arith, get_or-take (i + 1) ws i 0) }

-- ---- the tables so far

-- the bytes tell of the choices whose first pan is before i, with k later pans
pub record Filling (k : ℕ) (ws : List ℕ) (i : ℕ) (bytes : List ℕ) : Type 0 where
  pub each : (j x : ℕ) → j < i → x + 1 < length bytes → Heads k ws x j → get_or bytes x 0 + j ≤ length ws
  pub some : (x : ℕ) → x + 1 < length bytes → (get_or bytes x 0 ≡ 255) ⊎ ((j : ℕ) × (j < i) × (get_or bytes x 0 + j ≡ length ws) × Heads k ws x j)

-- the same with one pan more
pub filling_more :
    {k i byte : ℕ} {ws bytes bytes' : List ℕ} → Filling k ws i bytes → length bytes' ≡ length bytes → byte + i ≡ length ws →
    Marked (λ x. Heads k ws x i) byte bytes bytes' → Filling k ws (i + 1) bytes'
filling_more {k} {i} {byte} {ws} {bytes} {bytes'} f same is m = record { each = λ j x less room h. each j x room h (cases_lt j i) less; some = λ x room. some x room (m.kept x (omega arith)) (f.some x (omega arith)) }
  where
    each : (j x : ℕ) → x + 1 < length bytes' → Heads k ws x j → (j < i) ⊎ (i ≤ j) → j < i + 1 → get_or bytes' x 0 + j ≤ length ws
    each j x room h (inl before) less = at (m.kept x (omega arith))
      where
        at : (get_or bytes' x 0 ≡ get_or bytes x 0) ⊎ ((get_or bytes' x 0 ≡ byte) × Heads k ws x i) → get_or bytes' x 0 + j ≤ length ws
        at (inl kept) = omega (arith, f.each j x before (omega arith) h)
        at (inr set) = omega (arith, set.0)
    each j x room h (inr here) less =
        let e : j ≡ i = omega arith in
        omega (arith, m.set x (omega arith) (rw e at h))

    some :
        (x : ℕ) → x + 1 < length bytes' → (get_or bytes' x 0 ≡ get_or bytes x 0) ⊎ ((get_or bytes' x 0 ≡ byte) × Heads k ws x i) →
        (get_or bytes x 0 ≡ 255) ⊎ ((j : ℕ) × (j < i) × (get_or bytes x 0 + j ≡ length ws) × Heads k ws x j) →
        (get_or bytes' x 0 ≡ 255) ⊎ ((j : ℕ) × (j < i + 1) × (get_or bytes' x 0 + j ≡ length ws) × Heads k ws x j)
    some x room (inl kept) (inl none) = inl (kept ∙ none)
    some x room (inl kept) (inr old) = inr (old.0, omega (arith, old.1), omega (arith, old.2), old.3)
    some x room (inr set) old = inr (i, omega arith, omega (arith, set.0), set.1)

-- ---- the tables of all pans

pub filling_all :
    {k : ℕ} {ws bytes : List ℕ} → Filling k ws (length ws) bytes → length ws ≤ 24 → ((i : ℕ) → i < length ws → 1 ≤ get_or ws i 0) → 2 ≤ length bytes →
    Tells (suc k) ws bytes
filling_all {k} {ws} {bytes} f small filled room = record { made = made; least = least; nothing = nothing (f.some 0 (omega arith)) }
  where
    made : (i x : ℕ) → i ≤ length ws → x + 1 < length bytes → get_or bytes x 0 ≤ length ws - i → (cs : Choice) × Makes (suc k) (drop i ws) x cs
    made i x within less low = at (f.some x less)
      where
        at : (get_or bytes x 0 ≡ 255) ⊎ ((j : ℕ) × (j < length ws) × (get_or bytes x 0 + j ≡ length ws) × Heads k ws x j) → (cs : Choice) × Makes (suc k) (drop i ws) x cs
        at (inl none) = absurd (omega arith)
        at (inr one) =
            let j = one.0 in
            let e : j ≡ i + (j - i) = omega (arith, one.1, one.2) in
            makes_headed (drop i ws) (j - i) (heads_undrop i (j - i) ws (rw e at one.3))

    least : (i x : ℕ) (cs : Choice) → i ≤ length ws → x + 1 < length bytes → Makes (suc k) (drop i ws) x cs → get_or bytes x 0 ≤ length ws - i
    least i x cs within less m =
        let h = headed (drop i ws) cs m in
        let j = i + h.0 in
        let whole = heads_drop i h.0 ws h.1 in
        omega (arith, whole.within, f.each j x whole.within less whole)

    nothing : (get_or bytes 0 0 ≡ 255) ⊎ ((j : ℕ) × (j < length ws) × (get_or bytes 0 0 + j ≡ length ws) × Heads k ws 0 j) → length ws < get_or bytes 0 0
    nothing (inl none) = omega arith
    nothing (inr one) = absurd (omega (arith, one.3.light, filled one.0 one.1))

-- ---- pairs

sums_from : {k x y : ℕ} {ws : List ℕ} (i : ℕ) → Heads 0 ws y i → k + y ≡ x → Sums k ws x
sums_from i h e = record { pan = i; within = h.within; is = omega (arith, heads_one i h) }

-- a choice of two pans is a first pan and one behind it
pub heads_sums : {x i : ℕ} {ws : List ℕ} → Heads 1 ws x i → Sums (get_or ws i 0) (drop (suc i) ws) x
heads_sums {x} {i} {ws} h =
    let one = headed (drop (suc i) ws) h.rest h.makes in
    sums_from one.0 one.1 (omega (arith, h.light))

pub sums_heads : {x i : ℕ} {ws : List ℕ} → i < length ws → Sums (get_or ws i 0) (drop (suc i) ws) x → Heads 1 ws x i
sums_heads {x} {i} {ws} within s =
    let m = makes_headed (drop (suc i) ws) s.pan (one_heads {x = x - get_or ws i 0} s.pan s.within (omega (arith, s.is))) in
    record { within = within; light = omega (arith, s.is); rest = m.0; makes = m.1 }

pub marked_pairs :
    {i byte : ℕ} {ws before after : List ℕ} → i < length ws → Marked (Sums (get_or ws i 0) (drop (suc i) ws)) byte before after →
    Marked (λ x. Heads 1 ws x i) byte before after
marked_pairs {i} {ws = ws} within = marked_same (λ x h. heads_sums h) (λ x s. sums_heads within s)

pub marked_ones :
    {i byte : ℕ} {ws bytes : List ℕ} → i < length ws → 1 ≤ length bytes →
    Marked (λ x. Heads 0 ws x i) byte bytes (set bytes (min (get_or ws i 0) (length bytes - 1)) byte)
marked_ones {i} {byte} {ws} {bytes} within room =
    marked_same (λ x h. heads_one i h) (λ x e. one_heads i within e) (marked_one (get_or ws i 0) byte bytes room)
