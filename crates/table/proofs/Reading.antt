-- The choice is read off the rows pan by pan: what is read so far, with the first choice of the rest, is the first of all.
use Rattle.std.proofs.Common.{◌≡◌, ℕ, ◌+◌, ◌-◌, ◌*◌, ◌^◌, ◌<◌, ◌≤◌, Bool, true, false, cond, ◌||◌, ltb, leb, ◌⊎◌, List, [], ◌∷◌, length, get_or, drop, sym, refl, ◌∙◌, inl, inr, add-one, arith}
use native.Mathlib.Nat.{pow-succ'}
use Rattle.std.proofs.lemmas.List.{drop_all}
use Rattle.std.proofs.lemmas.Bool.{cases_lt, and_parts, both_ways, le-ltb, lt-ltb, lt-leb, ltb-true, ltb-false, leb-true, leb-false}
use Rattle.choices.specs.Choice.{Choice, bit, opened}
use Rattle.choices.specs.Numbered.{number_of}
use Rattle.choices.proofs.Numbers.{marks_more}
use Rattle.table.specs.Pans.{old_count_of, free_at, free_before, none_old_empty, pairs_of}
use Rattle.table.specs.Rows.{Makes, Least, First, Row, Rows, Read, back, joined, row_at}
use Rattle.table.proofs.Joining.{back_far, back_near, back_both}
use Rattle.table.proofs.Making.{first_old, first_open, first_shut, first_nothing, least_old_rest, least_one, least_shut}
use Rattle.table.proofs.OldNumber.{old_at, old_two}
use Rattle.exact.specs.Pans.{only_old}
use Rattle.table.proofs.Filling.{Kind, kind, free, idle, drop_weights, drop_ages, no_weights, no_ages, before_next, none_old_at, row_next}

-- the pans before i are read: of the weight x, `left` is left, and `count` free pans make that
pub record Reading (old : ℕ) (ws as' : List ℕ) (most x i left count pans : ℕ) : Type 0 where
  pub least : Least old (drop i ws) (drop i as') left count
  pub some : count < 255
  pub within : left ≤ most
  pub reach : x ≤ left + free_before old ws as' i
  pub small : pans < 2 ^ i
  pub goes : (cs : Choice) → First old (drop i ws) (drop i as') left cs → (ds : Choice) × First old ws as' x ds × (number_of ds ≡ pans + 2 ^ i * number_of cs)

pub reading_none :
    {old : ℕ} {ws as' : List ℕ} {most x : ℕ} {f : ℕ → ℕ} → Row old ws as' x most f → x ≤ most → f x < 255 → Reading old ws as' most x 0 x (f x) 0
reading_none {x = x} h low some =
    record { least = h.least x (omega arith) low; some = some; within = low; reach = omega arith; small = omega arith; goes = λ cs g. (cs, g, omega arith) }

-- a pan is opened for its weight, opened since it is old, or stays shut
pub data Stepped (old : ℕ) (ws as' : List ℕ) (pan weight with left count pans left' count' pans' : ℕ) : Type 0 where
  opens : with < count → left' ≡ left - weight → count' ≡ with → pans' ≡ pans + 2 ^ pan → Stepped old ws as' pan weight with left count pans left' count' pans'
  old_pan : count ≤ with → old_at old ws as' pan ≡ true → left' ≡ left → count' ≡ count → pans' ≡ pans + 2 ^ pan → Stepped old ws as' pan weight with left count pans left' count' pans'
  stays : count ≤ with → old_at old ws as' pan ≡ false → left' ≡ left → count' ≡ count → pans' ≡ pans → Stepped old ws as' pan weight with left count pans left' count' pans'

-- which of these it is, as the code works it out
pub stepped :
    (old : ℕ) (ws as' : List ℕ) (pan weight with left count pans : ℕ) {left' pans' : ℕ} (o : Bool) → o ≡ ltb with count →
    left' ≡ left - cond o weight 0 → pans' ≡ pans + bit (old_at old ws as' pan || o) * 2 ^ pan →
    Stepped old ws as' pan weight with left count pans left' (cond o with count) pans'
stepped old ws as' pan weight with left count pans o is rest number = at o is rest number
  where
    at :
        {left' pans' : ℕ} (o : Bool) → o ≡ ltb with count → left' ≡ left - cond o weight 0 → pans' ≡ pans + bit (old_at old ws as' pan || o) * 2 ^ pan →
        Stepped old ws as' pan weight with left count pans left' (cond o with count) pans'
    at true is rest number = opens (ltb-true with count (sym is)) rest refl (opened' pans (old_at old ws as' pan) number)
      where
        opened' : {n : ℕ} (m : ℕ) (d : Bool) → n ≡ m + bit (d || true) * 2 ^ pan → n ≡ m + 2 ^ pan
        opened' m true e = omega (arith, e)
        opened' m false e = omega (arith, e)
    at false is rest number = kept (old_at old ws as' pan) refl rest number
      where
        kept :
            {left' pans' : ℕ} (d : Bool) → old_at old ws as' pan ≡ d → left' ≡ left - 0 → pans' ≡ pans + bit (d || false) * 2 ^ pan →
            Stepped old ws as' pan weight with left count pans left' count pans'
        kept true e rest n = old_pan (ltb-false with count (sym is)) e (omega (arith, rest)) refl (omega (arith, n))
        kept false e rest n = stays (ltb-false with count (sym is)) e (omega (arith, rest)) refl (omega (arith, n))

-- the number with one pan more fits its bits
pub small_more : (i pans : ℕ) (c : Bool) → pans < 2 ^ i → pans + bit c * 2 ^ i < 2 ^ (i + 1)
small_more i pans true h = rw (add-one i, pow-succ' 2 i) (omega arith)
small_more i pans false h = rw (add-one i, pow-succ' 2 i) (omega arith)

-- a count that is found a weight back lies within the row
pub back_within : (f : ℕ → ℕ) (w x : ℕ) → back f w x < 255 → w ≤ x
back_within f w x h = at (cases_lt x w)
  where
    at : (x < w) ⊎ (w ≤ x) → w ≤ x
    at (inl far) = absurd (omega (arith, h, back_far f w x far))
    at (inr near) = near

module _
    {old : ℕ} {ws as' : List ℕ} {most x i left count pans : ℕ} (h : Reading old ws as' most x i left count pans) (paired : length as' ≡ length ws)
  where
    next :
        {left' count' pans' : ℕ} (c : Bool) → i < length ws → pans' ≡ pans + bit c * 2 ^ i → Least old (drop (i + 1) ws) (drop (i + 1) as') left' count' →
        count' < 255 → left' ≤ most → x ≤ left' + free_before old ws as' (i + 1) →
        ((cs : Choice) → First old (drop (i + 1) ws) (drop (i + 1) as') left' cs → First old (get_or ws i 0 ∷ drop (i + 1) ws) (get_or as' i 0 ∷ drop (i + 1) as') left (c ∷ cs)) →
        Reading old ws as' most x (i + 1) left' count' pans'
    next c few is least some low reach step =
        record {
          least = least;
          some = some;
          within = low;
          reach = reach;
          small = rw is (small_more i pans c h.small);
          goes = λ cs f.
              let g = h.goes (c ∷ cs) (rw (drop_weights old ws as' i paired few, drop_ages old ws as' i paired few) (step cs f)) in
              (g.0, g.1, rw is (g.2 ∙ marks_more i pans (number_of cs) c));
        }

    whole : i < length ws → Least old (get_or ws i 0 ∷ drop (i + 1) ws) (get_or as' i 0 ∷ drop (i + 1) as') left count
    whole few = rw (drop_weights old ws as' i paired few, drop_ages old ws as' i paired few) at h.least

    later : free_before old ws as' (i + 1) ≡ free_before old ws as' i + free_at old ws as' i
    later = before_next old ws as' i paired

    -- a pan that is not opened for its weight: it is old, or opening it takes no fewer pans
    module _
        (old_filled : none_old_empty old ws as' ≡ true)
        (barred : leb 1 (get_or ws i 0) ≡ true → ltb (get_or as' i 0) old ≡ true → get_or ws i 0 ≤ left → (ds : Choice) →
        Makes old (drop (i + 1) ws) (drop (i + 1) as') (left - get_or ws i 0) ds → old_count_of old (drop (i + 1) as') + count ≤ opened ds)
      where
        reading_old : {left' count' pans' : ℕ} → old_at old ws as' i ≡ true → left' ≡ left → count' ≡ count → pans' ≡ pans + 2 ^ i → Reading old ws as' most x (i + 1) left' count' pans'
        reading_old test same many number =
            next true few (omega arith) (rw (same, many) (least_old_rest e full (whole few))) (omega (arith, h.some)) (omega (arith, h.within)) (omega (arith, h.reach, later))
            (λ cs g. first_old e full (rw same at g))
          where
            few : i < length ws
            few = ltb-true i (length ws) (and_parts (ltb i (length ws)) (leb old (get_or as' i 0)) test).0

            e : ltb (get_or as' i 0) old ≡ false
            e = le-ltb (get_or as' i 0) old (leb-true old (get_or as' i 0) (and_parts (ltb i (length ws)) (leb old (get_or as' i 0)) test).1)

            full : leb 1 (get_or ws i 0) ≡ true
            full = rw e at (none_old_at old ws as' i few paired old_filled)

        reading_stays : old_at old ws as' i ≡ false → Reading old ws as' most x (i + 1) left count pans
        reading_stays test = at (cases_lt i (length ws))
          where
            at : (i < length ws) ⊎ (length ws ≤ i) → Reading old ws as' most x (i + 1) left count pans
            at (inl few) =
                next false few (omega arith) (least_shut e (whole few) h.some (λ full near. barred full e near)) h.some h.within (omega (arith, h.reach, later))
                (λ cs g. first_shut e (whole few) h.some (λ full near. barred full e near) g)
              where
                e : ltb (get_or as' i 0) old ≡ true
                e = lt-ltb (get_or as' i 0) old (leb-false old (get_or as' i 0) (rw (lt-ltb i (length ws) few) at test))
            at (inr past) =
                record {
                  least = rw (gone_weights, gone_ages) (rw (no_weights old ws as' i paired past, no_ages old ws as' i paired past) at h.least);
                  some = h.some;
                  within = h.within;
                  reach = omega (arith, h.reach, later);
                  small = let m = small_more i pans false h.small in omega (arith, m);
                  goes = λ cs g. ended cs (rw (gone_weights, gone_ages) at g);
                }
              where
                gone_weights : drop (i + 1) ws ≡ []
                gone_weights = drop_all (i + 1) ws (omega arith)

                gone_ages : drop (i + 1) as' ≡ []
                gone_ages = drop_all (i + 1) as' (omega arith)

                ended : (cs : Choice) → First old [] [] left cs → (ds : Choice) × First old ws as' x ds × (number_of ds ≡ pans + 2 ^ (i + 1) * number_of cs)
                ended [] g = let k = h.goes [] (rw (no_weights old ws as' i paired past, no_ages old ws as' i paired past) g) in (k.0, k.1, omega (arith, k.2))
                ended (c ∷ cs) g = absurd (omega (arith, g.makes.whole))

    -- a pan that the rows leave out is not opened for its weight
    idle_opened :
        {with : ℕ} {f : ℕ → ℕ} → Row old (drop (i + 1) ws) (drop (i + 1) as') (x - free_before old ws as' (i + 1)) most f → with ≡ back f (free_at old ws as' i) left → with < count →
        free_at old ws as' i ≡ 0 → ((y k : ℕ) → Least old (drop (i + 1) ws) (drop (i + 1) as') y k → Least old (drop i ws) (drop i as') y k) → ⊥
    idle_opened {with} {f} rest is fewer e goes = omega (arith, fewer, here, same, h.some)
      where
        here : with ≡ f left
        here = let z : left - 0 ≡ left = omega arith in is ∙ rw (e, back_near f 0 left (omega arith), z) refl

        same : f left < 255 → count ≤ f left
        same below = least_one h.least (goes left (f left) (rest.least left (omega (arith, h.reach, later, e)) h.within)) below

    -- nor is an old one
    opened_young :
        {with : ℕ} {f : ℕ → ℕ} → none_old_empty old ws as' ≡ true → Row old (drop (i + 1) ws) (drop (i + 1) as') (x - free_before old ws as' (i + 1)) most f →
        with ≡ back f (free_at old ws as' i) left → with < count → old_at old ws as' i ≡ false
    opened_young {with} {f} old_filled rest is fewer = at (kind old ws as' i paired old_filled)
      where
        at : Kind old ws as' i paired → old_at old ws as' i ≡ false
        at (idle e goes) = absurd (idle_opened rest is fewer e goes)
        at (free few young full lies) = rw (lt-ltb i (length ws) few, lt-leb old (get_or as' i 0) (ltb-true (get_or as' i 0) old young)) refl

    -- so no pan is marked twice
    pub marked_once :
        {with : ℕ} {f : ℕ → ℕ} (o : Bool) → none_old_empty old ws as' ≡ true → Row old (drop (i + 1) ws) (drop (i + 1) as') (x - free_before old ws as' (i + 1)) most f →
        with ≡ back f (free_at old ws as' i) left → o ≡ ltb with count → bit (old_at old ws as' i || o) ≡ bit (old_at old ws as' i) + bit o
    marked_once {with} o old_filled rest is e = at (old_at old ws as' i) o refl e
      where
        at : (d o : Bool) → old_at old ws as' i ≡ d → o ≡ ltb with count → bit (d || o) ≡ bit d + bit o
        at true true is_old e =
            let young : old_at old ws as' i ≡ false = opened_young old_filled rest is (ltb-true with count (sym e)) in
            absurd (both_ways (old_at old ws as' i) young is_old)
        at true false _ _ = refl
        at false true _ _ = refl
        at false false _ _ = refl

    -- one pan more is read, by the row of the pans behind it
    pub reading_next :
        {with left' count' pans' : ℕ} {f : ℕ → ℕ} → none_old_empty old ws as' ≡ true →
        Row old (drop (i + 1) ws) (drop (i + 1) as') (x - free_before old ws as' (i + 1)) most f → with ≡ back f (free_at old ws as' i) left →
        Stepped old ws as' i (free_at old ws as' i) with left count pans left' count' pans' → Reading old ws as' most x (i + 1) left' count' pans'
    reading_next {with} {left'} {count'} {pans'} {f} old_filled rest is s = at s
      where
        opened' : with < count → left' ≡ left - free_at old ws as' i → count' ≡ with → pans' ≡ pans + 2 ^ i → Kind old ws as' i paired → Reading old ws as' most x (i + 1) left' count' pans'
        opened' fewer to many number (idle e goes) = absurd (idle_opened rest is fewer e goes)
        opened' fewer to many number (free few young full lies) =
            next true few (omega arith) (rw (at', many, value) behind) (omega (arith, h.some)) (omega (arith, h.within)) (omega (arith, h.reach, later, lies, near, to))
            (λ cs g. first_open young full near (whole few) h.some behind (omega (arith, fewer, value)) (rw at' at g))
          where
            near : get_or ws i 0 ≤ left
            near = rw lies at (back_within f (free_at old ws as' i) left (omega (arith, is, fewer, h.some)))

            value : with ≡ f (left - get_or ws i 0)
            value = is ∙ rw lies (back_near f (get_or ws i 0) left near)

            at' : left' ≡ left - get_or ws i 0
            at' = omega (arith, to, lies)

            behind : Least old (drop (i + 1) ws) (drop (i + 1) as') (left - get_or ws i 0) (f (left - get_or ws i 0))
            behind = rest.least (left - get_or ws i 0) (omega (arith, h.reach, later, lies)) (omega (arith, h.within))

        barred :
            count ≤ with → leb 1 (get_or ws i 0) ≡ true → ltb (get_or as' i 0) old ≡ true → get_or ws i 0 ≤ left → (ds : Choice) →
            Makes old (drop (i + 1) ws) (drop (i + 1) as') (left - get_or ws i 0) ds → old_count_of old (drop (i + 1) as') + count ≤ opened ds
        barred more full e near ds m =
            let lies : free_at old ws as' i ≡ get_or ws i 0 = rw e refl in
            let value : with ≡ f (left - get_or ws i 0) = is ∙ rw lies (back_near f (get_or ws i 0) left near) in
            omega (arith, more, value, (rest.least (left - get_or ws i 0) (omega (arith, h.reach, later, lies)) (omega (arith, h.within))).low ds m)

        at : Stepped old ws as' i (free_at old ws as' i) with left count pans left' count' pans' → Reading old ws as' most x (i + 1) left' count' pans'
        at (opens fewer to many number) = opened' fewer to many number (kind old ws as' i paired old_filled)
        at (old_pan more test to many number) = reading_old old_filled (barred more) test to many number
        at (stays more test to many number) = rw (to, many, number) (reading_stays old_filled (barred more) test)

-- the same by another row of the same pans
pub reading_same :
    {old : ℕ} {ws as' : List ℕ} {most x i left count count' pans : ℕ} → Reading old ws as' most x i left count pans → Least old (drop i ws) (drop i as') left count' →
    Reading old ws as' most x i left count' pans
reading_same h l =
    record { least = l; some = omega (arith, least_one l h.least h.some, h.some); within = h.within; reach = h.reach; small = h.small; goes = h.goes }

-- two pans are read, by the row of the pans behind them
module _
    {old : ℕ} {ws as' : List ℕ} {most pad wide x pair row : ℕ} {bytes : List ℕ} (paired : length as' ≡ length ws) (old_filled : none_old_empty old ws as' ≡ true)
    (rows : Rows old ws as' x most pad wide 0 bytes) (few : pair < pairs_of (length ws)) (place : row ≡ pad + wide * (pairs_of (length ws) - (pair + 1)))
  where
    two : 2 * (pair + 1) ≡ 2 * pair + 1 + 1
    two = omega arith

    behind : Row old (drop (2 * pair + 1 + 1) ws) (drop (2 * pair + 1 + 1) as') (x - free_before old ws as' (2 * pair + 1 + 1)) most (row_at bytes row)
    behind =
        let b = rows.row (pair + 1) (omega arith) (omega arith) in
        rw (two, sym place) at b

    -- the two pans take no more than is left
    pub reading_left :
        (u v : ℕ) {left count pans : ℕ} {o o' : Bool} → Reading old ws as' most x (2 * pair) left count pans → o ≡ ltb (back (joined (row_at bytes row) v) u left) count →
        o' ≡ cond o (ltb (back (row_at bytes row) (u + v) left) (back (joined (row_at bytes row) v) u left)) (ltb (back (row_at bytes row) v left) count) → cond o u 0 + cond o' v 0 ≤ left
    reading_left u v {left} {count} {o = o} {o'} h is is' = at o o' is is'
      where
        at : (o o' : Bool) → o ≡ ltb (back (joined (row_at bytes row) v) u left) count → o' ≡ cond o (ltb (back (row_at bytes row) (u + v) left) (back (joined (row_at bytes row) v) u left)) (ltb (back (row_at bytes row) v left) count) → cond o u 0 + cond o' v 0 ≤ left
        at true true e f =
            let few = ltb-true (back (joined (row_at bytes row) v) u left) count (sym e) in
            omega (arith, back_within (row_at bytes row) (u + v) left (omega (arith, ltb-true (back (row_at bytes row) (u + v) left) (back (joined (row_at bytes row) v) u left) (sym f), few, h.some)))
        at true false e f = omega (arith, back_within (joined (row_at bytes row) v) u left (omega (arith, ltb-true (back (joined (row_at bytes row) v) u left) count (sym e), h.some)))
        at false true e f = omega (arith, back_within (row_at bytes row) v left (omega (arith, ltb-true (back (row_at bytes row) v left) count (sym f), h.some)))
        at false false e f = omega arith

    -- the number that is read so far, with the old pans that are not reached yet
    pub reading_two :
        (left'' : ℕ) {left count pans : ℕ} {o o' : Bool} → Reading old ws as' most x (2 * pair) left count pans →
        o ≡ ltb (back (joined (row_at bytes row) (free_at old ws as' (2 * pair + 1))) (free_at old ws as' (2 * pair)) left) count →
        o' ≡ cond o (ltb (back (row_at bytes row) ((free_at old ws as' (2 * pair)) + (free_at old ws as' (2 * pair + 1))) left) (back (joined (row_at bytes row) (free_at old ws as' (2 * pair + 1))) (free_at old ws as' (2 * pair)) left)) (ltb (back (row_at bytes row) (free_at old ws as' (2 * pair + 1)) left) count) →
        left'' ≡ left - (cond o (free_at old ws as' (2 * pair)) 0 + cond o' (free_at old ws as' (2 * pair + 1)) 0) →
        (pans'' : ℕ) × Reading old ws as' most x (2 * (pair + 1)) left'' (row_at bytes row left'') pans''
        × (pans + 2 ^ (2 * pair) * number_of (only_old old (drop (2 * pair) as')) + (bit o * 2 ^ (2 * pair) + bit o' * 2 ^ (2 * pair + 1))
        ≡ pans'' + 2 ^ (2 * (pair + 1)) * number_of (only_old old (drop (2 * (pair + 1)) as')))
    reading_two left'' {left} {count} {pans} {o} {o'} h is is' rest =
        let i : ℕ = 2 * pair in
        let pans' : ℕ = pans + bit (old_at old ws as' i || o) * 2 ^ i in
        let pans'' : ℕ = pans' + bit (old_at old ws as' (i + 1) || o') * 2 ^ (i + 1) in
        let first = row_next old ws as' (2 * pair + 1) paired x old_filled behind in
        let one : Reading old ws as' most x (2 * pair + 1) (left - cond o (free_at old ws as' (2 * pair)) 0) (cond o (back (joined (row_at bytes row) (free_at old ws as' (2 * pair + 1))) (free_at old ws as' (2 * pair)) left) count) pans'
        = reading_next h paired old_filled first refl
        (stepped old ws as' (2 * pair) (free_at old ws as' (2 * pair)) (back (joined (row_at bytes row) (free_at old ws as' (2 * pair + 1))) (free_at old ws as' (2 * pair)) left) left count pans o is refl refl) in
        let both : Reading old ws as' most x (2 * pair + 1 + 1) left'' (cond o' (back (row_at bytes row) (free_at old ws as' (2 * pair + 1)) (left - cond o (free_at old ws as' (2 * pair)) 0)) (cond o (back (joined (row_at bytes row) (free_at old ws as' (2 * pair + 1))) (free_at old ws as' (2 * pair)) left) count)) pans''
        = reading_next one paired old_filled behind refl
        (stepped old ws as' (2 * pair + 1) (free_at old ws as' (2 * pair + 1)) (back (row_at bytes row) (free_at old ws as' (2 * pair + 1)) (left - cond o (free_at old ws as' (2 * pair)) 0)) (left - cond o (free_at old ws as' (2 * pair)) 0) (cond o (back (joined (row_at bytes row) (free_at old ws as' (2 * pair + 1))) (free_at old ws as' (2 * pair)) left) count) pans' o' (is' ∙ beside o is) (omega (arith, rest)) refl) in (
          pans'',
          rw two (reading_same both (behind.least left'' (omega (arith, both.reach)) both.within)),
          old_two old ws as' pair pans o o' paired (marked_once h paired o old_filled first refl is) (marked_once one paired o' old_filled behind refl (is' ∙ beside o is)),
        )
      where
        -- how many pans the rest takes without the second pan, and with it
        beside : (o : Bool) → o ≡ ltb (back (joined (row_at bytes row) (free_at old ws as' (2 * pair + 1))) (free_at old ws as' (2 * pair)) left) count → cond o (ltb (back (row_at bytes row) ((free_at old ws as' (2 * pair)) + (free_at old ws as' (2 * pair + 1))) left) (back (joined (row_at bytes row) (free_at old ws as' (2 * pair + 1))) (free_at old ws as' (2 * pair)) left)) (ltb (back (row_at bytes row) (free_at old ws as' (2 * pair + 1)) left) count) ≡ ltb (back (row_at bytes row) (free_at old ws as' (2 * pair + 1)) (left - cond o (free_at old ws as' (2 * pair)) 0)) (cond o (back (joined (row_at bytes row) (free_at old ws as' (2 * pair + 1))) (free_at old ws as' (2 * pair)) left) count)
        beside true is =
            let near = back_within (joined (row_at bytes row) (free_at old ws as' (2 * pair + 1))) (free_at old ws as' (2 * pair)) left (omega (arith, ltb-true (back (joined (row_at bytes row) (free_at old ws as' (2 * pair + 1))) (free_at old ws as' (2 * pair)) left) count (sym is), h.some)) in
            rw (back_both (row_at bytes row) (free_at old ws as' (2 * pair)) (free_at old ws as' (2 * pair + 1)) left near) refl
        beside false is = let e : left - 0 ≡ left = omega arith in rw e refl

-- no pan is left
pub reading_all :
    {old : ℕ} {ws as' : List ℕ} {most x i left count pans : ℕ} → Reading old ws as' most x i left count pans → length ws ≤ i → length as' ≡ length ws → Read old ws as' x pans
reading_all {old} {ws} {as'} {most} {x} {i} {left} h past paired =
    let none : First old (drop i ws) (drop i as') left []
    = rw (no_weights old ws as' i paired past, no_ages old ws as' i paired past) (first_nothing (rw (no_weights old ws as' i paired past, no_ages old ws as' i paired past) at h.least) h.some) in
    let g = h.goes [] none in
    record { choice = g.0; first = g.1; is = omega (arith, g.2) }
