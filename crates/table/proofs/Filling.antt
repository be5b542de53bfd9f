-- The rows are filled from the last two pans to the first: what one row more keeps and adds.
use Rattle.std.proofs.Common.{◌≡◌, ℕ, zero, suc, ◌+◌, ◌-◌, ◌*◌, ◌<◌, ◌≤◌, Bool, true, false, cond, ◌||◌, ltb, leb, ◌≢◌, ◌⊎◌, List, [], ◌∷◌, length, get_or, drop, sym, refl, ◌∙◌, length-drop, inl, inr, mul-le-mul_left, mul-one, mul-add, arith}
use Rattle.std.proofs.lemmas.List.{drop_all, drop_more, get_or_past}
use Rattle.std.proofs.lemmas.Bool.{cases_lt, and_parts, both_ways, leb-false}
use Rattle.table.specs.Pans.{free_weight, free_at, free_before, none_old_empty, pairs_of}
use Rattle.table.specs.Rows.{Least, Row, Rows, joined, row_at}
use Rattle.table.proofs.Joining.{back_far, back_near, joined_nothing}
use Rattle.table.proofs.Making.{least_old, least_barred, least_both, least_cap, least_heavy, least_nothing, least_never}

free_drop_le : (old : ℕ) (j : ℕ) (ws as' : List ℕ) → free_weight old (drop j ws) (drop j as') ≤ free_weight old ws as'
free_drop_le old zero ws as' = omega arith
free_drop_le old (suc j) [] as' = omega arith
free_drop_le old (suc j) (w ∷ ws) [] = none (drop j ws)
  where
    none : (us : List ℕ) → free_weight old us [] ≤ 0
    none [] = omega arith
    none (u ∷ us) = omega arith
free_drop_le old (suc j) (w ∷ ws) (a ∷ as') = omega (arith, free_drop_le old j ws as')

cond_same : (b : Bool) (n : ℕ) → cond b n n ≡ n
cond_same true n = refl
cond_same false n = refl

pub none_old_at :
    (old : ℕ) (ws as' : List ℕ) (i : ℕ) → i < length ws → length as' ≡ length ws → none_old_empty old ws as' ≡ true →
    (ltb (get_or as' i 0) old || leb 1 (get_or ws i 0)) ≡ true
none_old_at old [] as' i few paired h = absurd (omega arith)
none_old_at old (w ∷ ws) [] i few paired h = absurd (omega arith)
none_old_at old (w ∷ ws) (a ∷ as') zero few paired h = (and_parts (ltb a old || leb 1 w) (none_old_empty old ws as') h).0
none_old_at old (w ∷ ws) (a ∷ as') (suc i) few paired h =
    none_old_at old ws as' i (omega arith) (omega arith) (and_parts (ltb a old || leb 1 w) (none_old_empty old ws as') h).1

module _ (old : ℕ) (ws as' : List ℕ) (i : ℕ) (paired : length as' ≡ length ws) where
  pub drop_weights : i < length ws → drop i ws ≡ get_or ws i 0 ∷ drop (i + 1) ws
  drop_weights few = drop_more ws i 0 few

  pub drop_ages : i < length ws → drop i as' ≡ get_or as' i 0 ∷ drop (i + 1) as'
  drop_ages few = drop_more as' i 0 (omega arith)

  pub no_weights : length ws ≤ i → drop i ws ≡ []
  no_weights past = drop_all i ws past

  pub no_ages : length ws ≤ i → drop i as' ≡ []
  no_ages past = drop_all i as' (omega arith)

  pub free_past : length ws ≤ i → free_at old ws as' i ≡ 0
  free_past past = rw (get_or_past ws i 0 past, cond_same (ltb (get_or as' i 0) old) 0) refl

  free_next : free_weight old (drop i ws) (drop i as') ≡ free_at old ws as' i + free_weight old (drop (i + 1) ws) (drop (i + 1) as')
  free_next = at (cases_lt i (length ws))
    where
      at : (i < length ws) ⊎ (length ws ≤ i) → free_weight old (drop i ws) (drop i as') ≡ free_at old ws as' i + free_weight old (drop (i + 1) ws) (drop (i + 1) as')
      at (inl few) = rw (drop_weights few, drop_ages few) refl
      at (inr past) =
          rw (no_weights past, drop_all (i + 1) ws (omega arith), free_past past) refl

  -- the free pans before the next one
  pub before_next : free_before old ws as' (i + 1) ≡ free_before old ws as' i + free_at old ws as' i
  before_next = omega (arith, free_next, free_drop_le old i ws as')

  pub before_le : free_before old ws as' i + free_at old ws as' i ≤ free_weight old ws as'
  before_le = omega (arith, free_next, free_drop_le old i ws as')

  -- a pan may be opened or stay shut; or it is old, empty or not there, and the row is the same with it
  pub data Kind : Type 0 where
    free : i < length ws → ltb (get_or as' i 0) old ≡ true → leb 1 (get_or ws i 0) ≡ true → free_at old ws as' i ≡ get_or ws i 0 → Kind
    idle : free_at old ws as' i ≡ 0 →
        ((x k : ℕ) → Least old (drop (i + 1) ws) (drop (i + 1) as') x k → Least old (drop i ws) (drop i as') x k) → Kind

  pub kind : none_old_empty old ws as' ≡ true → Kind
  kind old_filled = past_or (cases_lt i (length ws))
    where
      here : i < length ws → (b c : Bool) → ltb (get_or as' i 0) old ≡ b → leb 1 (get_or ws i 0) ≡ c → Kind
      here few true true e f = free few e f (rw e refl)
      here few true false e f = idle (rw e (omega (arith, leb-false 1 (get_or ws i 0) f))) (λ x k l. rw (drop_weights few, drop_ages few) (least_barred e (λ g _. both_ways _ f g) l))
      here few false true e f = idle (rw e refl) (λ x k l. rw (drop_weights few, drop_ages few) (least_old e f l))
      here few false false e f = let h = rw (e, f) at (none_old_at old ws as' i few paired old_filled) in absurd (both_ways false refl h)

      past_or : (i < length ws) ⊎ (length ws ≤ i) → Kind
      past_or (inl few) = here few (ltb (get_or as' i 0) old) (leb 1 (get_or ws i 0)) refl refl
      past_or (inr past) =
          idle (free_past past)
          (λ x k l. rw (no_weights past, no_ages past) (rw (drop_all (i + 1) ws (omega arith), drop_all (i + 1) as' (omega arith)) at l))

  -- the row with one pan more in front
  pub row_next :
      (from : ℕ) {most : ℕ} {f : ℕ → ℕ} → none_old_empty old ws as' ≡ true →
      Row old (drop (i + 1) ws) (drop (i + 1) as') (from - free_before old ws as' (i + 1)) most f →
      Row old (drop i ws) (drop i as') (from - free_before old ws as' i) most (joined f (free_at old ws as' i))
  row_next from {most} {f} old_filled h = record { least = λ x low high. at x low high (kind old_filled) }
    where
      at : (x : ℕ) → from - free_before old ws as' i ≤ x → x ≤ most → Kind → Least old (drop i ws) (drop i as') x (joined f (free_at old ws as' i) x)
      at x low high (idle e goes) =
          rw (e, joined_nothing f x) (least_cap (goes x (f x) (h.least x (omega (arith, before_next)) high)))
      at x low high (free few young full lies) = rw lies (rw (drop_weights few, drop_ages few) (within (cases_lt x (get_or ws i 0))))
        where
          rest : Least old (drop (i + 1) ws) (drop (i + 1) as') x (f x)
          rest = h.least x (omega (arith, before_next)) high

          within : (x < get_or ws i 0) ⊎ (get_or ws i 0 ≤ x) → Least old (get_or ws i 0 ∷ drop (i + 1) ws) (get_or as' i 0 ∷ drop (i + 1) as') x (joined f (get_or ws i 0) x)
          within (inl far) = rw (back_far f (get_or ws i 0) x far) (least_cap (least_barred young (λ g n. omega arith) rest))
          within (inr near) =
              rw (back_near f (get_or ws i 0) x near)
              (least_both young full near rest (h.least (x - get_or ws i 0) (omega (arith, before_next, lies)) (omega arith)))

pub row_same :
    {old : ℕ} {ws as' : List ℕ} {from most : ℕ} {f g : ℕ → ℕ} → Row old ws as' from most f → ((x : ℕ) → from ≤ x → x ≤ most → g x ≡ f x) → Row old ws as' from most g
row_same h same = record { least = λ x low high. rw (same x low high) (h.least x low high) }

-- the rows so far; weight 0 of the newest stands at `at`
pub record Filling (old : ℕ) (ws as' : List ℕ) (from most pad wide pair row before : ℕ) (bytes : List ℕ) : Type 0 where
  pub at : row ≡ pad + wide * (pairs_of (length ws) - pair)
  pub earlier : before ≡ free_before old ws as' (2 * pair)
  pub rows : Rows old ws as' from most pad wide pair bytes

pub filling_none :
    (old : ℕ) (ws as' : List ℕ) (from most pad wide lies : ℕ) (bytes : List ℕ) → length as' ≡ length ws → pad + most < wide → lies ≡ free_weight old ws as' →
    get_or bytes pad 0 ≡ 0 → ((x : ℕ) → x ≢ pad → x < wide → get_or bytes x 0 ≡ 255) → Filling old ws as' from most pad wide (pairs_of (length ws)) pad lies bytes
filling_none old ws as' from most pad wide lies bytes paired less is none rest =
    record {
      at = let e : pairs_of (length ws) - pairs_of (length ws) ≡ 0 = omega arith in rw e (omega arith);
      earlier = rw (no_weights old ws as' (2 * pairs_of (length ws)) paired (omega arith)) (omega arith);
      rows = record {
        row = row;
        blank = λ i j low high few.
            let e : pairs_of (length ws) - i ≡ 0 = omega arith in
            let z : wide * 0 + j ≡ j = omega arith in
            let ne : j ≢ pad = omega arith in
            rw (e, z) (rest j ne (omega arith));
      };
    }
  where
    least : (x : ℕ) → x ≤ most → Least old [] [] x (get_or bytes (pad + x) 0)
    least zero low = let z : pad + 0 ≡ pad = omega arith in rw (z, none) least_nothing
    least (suc x) low = let ne : pad + suc x ≢ pad = omega arith in rw (rest (pad + suc x) ne (omega arith)) (least_never (suc x) (omega arith))

    row :
        (i : ℕ) → pairs_of (length ws) ≤ i → i ≤ pairs_of (length ws) →
        Row old (drop (2 * i) ws) (drop (2 * i) as') (from - free_before old ws as' (2 * i)) most (row_at bytes (pad + wide * (pairs_of (length ws) - i)))
    row i low high =
        let e : pairs_of (length ws) - i ≡ 0 = omega arith in
        let z : pad + wide * 0 ≡ pad = omega arith in
        rw (no_weights old ws as' (2 * i) paired (omega arith), no_ages old ws as' (2 * i) paired (omega arith), e, z) (record { least = λ x _ most. least x most })

-- a row more: the older ones stay
pub filling_next :
    {old : ℕ} {ws as' : List ℕ} {from most pad wide pair row before before' high : ℕ} {bytes bytes' : List ℕ} → length as' ≡ length ws → none_old_empty old ws as' ≡ true →
    pair < pairs_of (length ws) → pad + most < wide → Filling old ws as' from most pad wide (pair + 1) row before bytes →
    before ≡ before' + (free_at old ws as' (2 * pair) + free_at old ws as' (2 * pair + 1)) → ((x : ℕ) → high ≤ x → x ≤ most → free_weight old ws as' < before' + x) →
    ((j : ℕ) → j < row + (wide - pad) → get_or bytes' j 0 ≡ get_or bytes j 0) → ((j : ℕ) → j < pad → get_or bytes' (row + (wide - pad) + j) 0 ≡ 255) →
    ((x : ℕ) → from - before' ≤ x → x < high →
    row_at bytes' (row + wide) x ≡ joined (joined (row_at bytes row) (free_at old ws as' (2 * pair + 1))) (free_at old ws as' (2 * pair)) x) →
    ((x : ℕ) → high ≤ x → x ≤ most → row_at bytes' (row + wide) x ≡ 255) → Filling old ws as' from most pad wide pair (row + wide) before' bytes'
filling_next {old} {ws} {as'} {from} {most} {pad} {wide} {pair} {row} {before} {before'} {high} {bytes} {bytes'} paired old_filled few less h is past same blank made never =
    record { at = place; earlier = earlier; rows = record { row = λ i low high. at i high (cases_lt pair i) low; blank = λ i j low high short. front i j high short (cases_lt pair i) low } }
  where
    two : 2 * (pair + 1) ≡ 2 * pair + 1 + 1
    two = omega arith

    earlier : before' ≡ free_before old ws as' (2 * pair)
    earlier =
        let b : before ≡ free_before old ws as' (2 * pair + 1 + 1) = rw two at h.earlier in
        omega (arith, b, is, before_next old ws as' (2 * pair + 1) paired, before_next old ws as' (2 * pair) paired)

    more : wide * (pairs_of (length ws) - pair) ≡ wide * (pairs_of (length ws) - (pair + 1)) + wide
    more =
        let n : pairs_of (length ws) - pair ≡ pairs_of (length ws) - (pair + 1) + 1 = omega arith in
        rw n (omega (arith, mul-add wide (pairs_of (length ws) - (pair + 1)) 1, mul-one wide))

    place : row + wide ≡ pad + wide * (pairs_of (length ws) - pair)
    place = omega (arith, h.at, more)

    older : Row old (drop (2 * pair + 1 + 1) ws) (drop (2 * pair + 1 + 1) as') (from - free_before old ws as' (2 * pair + 1 + 1)) most (row_at bytes row)
    older =
        let r = h.rows.row (pair + 1) (omega arith) (omega arith) in
        rw (sym h.at, two) at r

    joined' :
        Row old (drop (2 * pair) ws) (drop (2 * pair) as') (from - free_before old ws as' (2 * pair)) most
        (joined (joined (row_at bytes row) (free_at old ws as' (2 * pair + 1))) (free_at old ws as' (2 * pair)))
    joined' = row_next old ws as' (2 * pair) paired from old_filled (row_next old ws as' (2 * pair + 1) paired from old_filled older)

    newest : Row old (drop (2 * pair) ws) (drop (2 * pair) as') (from - free_before old ws as' (2 * pair)) most (row_at bytes' (row + wide))
    newest = record { least = λ x low top. either x low top (cases_lt x high) }
      where
        either :
            (x : ℕ) → from - free_before old ws as' (2 * pair) ≤ x → x ≤ most → (x < high) ⊎ (high ≤ x) →
            Least old (drop (2 * pair) ws) (drop (2 * pair) as') x (row_at bytes' (row + wide) x)
        either x low top (inl below) = rw (made x (rw (sym earlier) at low) below) (joined'.least x low top)
        either x low top (inr heavy) =
            rw (never x heavy top) (least_heavy (rw (length-drop (2 * pair) ws, length-drop (2 * pair) as', paired) refl) (omega (arith, earlier, past x heavy top, free_drop_le old (2 * pair) ws as')))

    at :
        (i : ℕ) → i ≤ pairs_of (length ws) → (pair < i) ⊎ (i ≤ pair) → pair ≤ i →
        Row old (drop (2 * i) ws) (drop (2 * i) as') (from - free_before old ws as' (2 * i)) most (row_at bytes' (pad + wide * (pairs_of (length ws) - i)))
    at i top (inl later) low =
        let fewer : pairs_of (length ws) - i ≤ pairs_of (length ws) - (pair + 1) = omega arith in
        row_same (h.rows.row i (omega arith) top) (λ x _ most. same _ (omega (arith, h.at, mul-le-mul_left wide fewer)))
    at i top (inr here) low = let e : i ≡ pair = omega arith in rw (e, sym place) newest

    front : (i j : ℕ) → i ≤ pairs_of (length ws) → j < pad → (pair < i) ⊎ (i ≤ pair) → pair ≤ i → get_or bytes' (wide * (pairs_of (length ws) - i) + j) 0 ≡ 255
    front i j top short (inl later) low =
        let fewer : pairs_of (length ws) - i ≤ pairs_of (length ws) - (pair + 1) = omega arith in
        same _ (omega (arith, h.at, mul-le-mul_left wide fewer)) ∙ h.rows.blank i j (omega arith) top short
    front i j top short (inr here) low =
        let e : i ≡ pair = omega arith in
        let f : wide * (pairs_of (length ws) - pair) + j ≡ row + (wide - pad) + j = omega (arith, h.at, more) in
        rw (e, f) (blank j short)

-- the next two pans are among the free pans before
pub filling_before :
    {old : ℕ} {ws as' : List ℕ} {from most pad wide pair row before : ℕ} {bytes : List ℕ} → length as' ≡ length ws → 0 < pair →
    Filling old ws as' from most pad wide pair row before bytes → free_at old ws as' (2 * (pair - 1)) + free_at old ws as' (2 * (pair - 1) + 1) ≤ before
filling_before {old} {ws} {as'} {pair = pair} paired some h =
    let two : 2 * pair ≡ 2 * (pair - 1) + 1 + 1 = omega arith in
    let b = rw two at h.earlier in
    omega (arith, b, before_next old ws as' (2 * (pair - 1) + 1) paired, before_next old ws as' (2 * (pair - 1)) paired)

-- the same step as the code takes it
pub filling_more :
    {old : ℕ} {ws as' : List ℕ} {from most pad wide pair row before low high a b : ℕ} {bytes bytes' : List ℕ} → length as' ≡ length ws →
    none_old_empty old ws as' ≡ true → 0 < pair → pair ≤ pairs_of (length ws) → pad + most < wide → Filling old ws as' from most pad wide pair row before bytes →
    a ≡ free_at old ws as' (2 * (pair - 1)) → b ≡ free_at old ws as' (2 * (pair - 1) + 1) → low ≤ from - (before - (a + b)) →
    ((x : ℕ) → high ≤ x → x ≤ most → free_weight old ws as' < before - (a + b) + x) →
    ((j : ℕ) → j < row + (wide - pad) → get_or bytes' j 0 ≡ get_or bytes j 0) → ((j : ℕ) → j < pad → get_or bytes' (row + (wide - pad) + j) 0 ≡ 255) →
    ((x : ℕ) → low ≤ x → x < high → row_at bytes' (row + wide) x ≡ joined (joined (row_at bytes row) b) a x) →
    ((x : ℕ) → high ≤ x → x ≤ most → row_at bytes' (row + wide) x ≡ 255) → Filling old ws as' from most pad wide (pair - 1) (row + wide) (before - (a + b)) bytes'
filling_more {old} {ws} {as'} {from} {most} {pad} {wide} {pair} {row} {before} {low} {high} {a} {b} {bytes} {bytes'} paired old_filled some few less h first second start past same blank made never =
    filling_next paired old_filled (omega arith) less here (omega (arith, first, second, filling_before paired some h)) past same blank
    (λ x enough below. rw (sym first, sym second) (made x (omega arith) below)) never
  where
    here : Filling old ws as' from most pad wide (pair - 1 + 1) row before bytes
    here = let e : pair - 1 + 1 ≡ pair = omega arith in rw e h

pub filling_free :
    {old : ℕ} {ws as' : List ℕ} {from most pad wide pair row before : ℕ} {bytes : List ℕ} →
    Filling old ws as' from most pad wide pair row before bytes → before ≤ free_weight old ws as'
filling_free {old} {ws} {as'} h = omega (arith, h.earlier)

pub filling_blank :
    {old : ℕ} {ws as' : List ℕ} {from most pad wide pair row before : ℕ} {bytes : List ℕ} → Filling old ws as' from most pad wide pair row before bytes →
    pair ≤ pairs_of (length ws) → (j : ℕ) → j < pad → get_or bytes (row - pad + j) 0 ≡ 255
filling_blank {ws = ws} {pad = pad} {wide = wide} {pair} {row} h few j short =
    let e : row - pad ≡ wide * (pairs_of (length ws) - pair) = omega (arith, h.at) in
    rw e (h.rows.blank pair j (omega arith) few short)

-- there is room for a row more wherever two pans are left
pub filling_room :
    {old : ℕ} {ws as' : List ℕ} {from most pad wide pair row before : ℕ} {bytes : List ℕ} → Filling old ws as' from most pad wide pair row before bytes → 0 < pair →
    pair ≤ pairs_of (length ws) → row + wide + wide ≤ pad + wide * (pairs_of (length ws) + 1)
filling_room {ws = ws} {wide = wide} {pair} h some few =
    let m : pairs_of (length ws) - pair + 1 ≤ pairs_of (length ws) = omega arith in
    omega (arith, mul-add wide (pairs_of (length ws) - pair) 1, mul-add wide (pairs_of (length ws)) 1, mul-one wide, mul-le-mul_left wide m, h.at)

-- where the row of the pans behind the next two stands
pub row_below : (pad wide pairs pair row : ℕ) → pair < pairs → row ≡ pad + wide * (pairs - pair) → (pad + wide ≤ row) × (row - wide ≡ pad + wide * (pairs - (pair + 1)))
row_below pad wide pairs pair row few is =
    let n : pairs - pair ≡ pairs - (pair + 1) + 1 = omega arith in
    let e : row ≡ pad + wide * (pairs - (pair + 1) + 1) = rw n at is in
    (omega (arith, e, mul-add wide (pairs - (pair + 1)) 1, mul-one wide), omega (arith, e, mul-add wide (pairs - (pair + 1)) 1, mul-one wide))

pub row_inside : (pad wide pairs k x row long : ℕ) → k ≤ pairs → pad + x < wide → wide * (pairs + 1) ≤ long → row ≡ pad + wide * k → row + x < long
row_inside pad wide pairs k x row long few less enough is = omega (arith, is, mul-le-mul_left wide few, mul-add wide pairs 1, mul-one wide)

-- the row of all pans
pub rows_all :
    {old : ℕ} {ws as' : List ℕ} {from most pad wide : ℕ} {bytes : List ℕ} → Rows old ws as' from most pad wide 0 bytes →
    Row old ws as' from most (row_at bytes (pad + wide * pairs_of (length ws)))
rows_all {old} {ws} {as'} {from} {most} {pad} {wide} {bytes} h =
    let all : pairs_of (length ws) - 0 ≡ pairs_of (length ws) = omega arith in
    let none : from - free_before old ws as' 0 ≡ from = omega arith in
    let r : Row old ws as' (from - free_before old ws as' 0) most (row_at bytes (pad + wide * (pairs_of (length ws) - 0))) = h.row 0 (omega arith) (omega arith) in
    rw (all, none) at r
