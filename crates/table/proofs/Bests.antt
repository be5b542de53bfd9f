-- The lightest weight in the window that few enough pans make is the best bag's, and the first choice of it the best.
use Rattle.std.proofs.Common.{◌≡◌, ℕ, ◌+◌, ◌-◌, ◌*◌, ◌<◌, ◌≤◌, min, true, false, ◌&&◌, ltb, leb, ◌⊎◌, List, [], ◌∷◌, length, get_or, None, sym, refl, ◌∙◌, inl, inr, mul-le-mul_left, mul_comm, arith}
use Rattle.std.proofs.lemmas.Bool.{and_parts, and_from, both_ways, cases_lt, false_from_ne_true, or_right, le-leb, leb-true}
use Rattle.choices.specs.Choice.{Choice, weight_of, opened, none_empty, keeps_old, fits}
use Rattle.choices.specs.declared.rule.Rule.{Rule}
use Rattle.choices.proofs.Choices.{Fitting, fitting, fits_from, opened_le}
use Rattle.order.specs.Order.{better, first_more, NoneOf, BestBag}
use Rattle.order.proofs.Orders.{not_better}
use Rattle.table.specs.Pans.{old_weight_of, old_count_of, none_old_empty, span_of, pairs_of, pad_of, width_of, row_bytes, table_bytes}
use Rattle.table.specs.Rows.{Makes, Row, Rows, Read, Lightest, LightestAt, row_at}
use Rattle.table.specs.Surveyed.{Surveyed}
use Rattle.table.specs.declared.survey.Survey.{Survey}
use Rattle.table.proofs.Making.{old_weight_le, old_count_le, weight_le}
use Rattle.table.proofs.Surveying.{span_is}
use Rattle.table.proofs.Filling.{rows_all}

-- ---- what any choice has

pub none_old_from :
    (old : ℕ) (ws as' : List ℕ) (cs : Choice) → length cs ≡ length ws → none_empty ws cs ≡ true → keeps_old old as' cs ≡ true → none_old_empty old ws as' ≡ true
none_old_from old [] as' cs e f h = refl
none_old_from old (w ∷ ws) [] cs e f h = refl
none_old_from old (w ∷ ws) (a ∷ as') [] e f h = absurd (omega arith)
none_old_from old (w ∷ ws) (a ∷ as') (true ∷ cs) e f h =
    let p = and_parts (leb 1 w) (none_empty ws cs) f in
    and_from _ _ (or_right (ltb a old) (leb 1 w) p.0) (none_old_from old ws as' cs (omega arith) p.1 h)
none_old_from old (w ∷ ws) (a ∷ as') (false ∷ cs) e f h =
    let p = and_parts (ltb a old) (keeps_old old as' cs) h in
    rw p.0 (none_old_from old ws as' cs (omega arith) f p.1)

-- ---- what a choice that fits has

pub record Wanted (r : Rule) (ws as' : List ℕ) (y : ℕ) (cs : Choice) : Type 0 where
  pub makes : Makes r.age ws as' y cs
  pub enough : r.target - old_weight_of r.age ws as' ≤ y
  pub within : y ≤ span_of r ws as'
  pub few : opened cs ≤ r.pans
  pub small : opened cs ≤ length ws

pub wanted :
    (r : Rule) (ws as' : List ℕ) (cs : Choice) → length as' ≡ length ws → fits r ws as' cs ≡ true →
    Wanted r ws as' (weight_of ws cs - old_weight_of r.age ws as') cs
unfolding span_of
wanted r ws as' cs paired h =
    let f = fitting r ws as' cs h in
    let old_weight = old_weight_le r.age ws as' cs f.whole f.old_opened in
    record {
      makes = record { whole = f.whole; filled = f.filled; old_opened = f.old_opened; weighs = omega (arith, old_weight) };
      enough = omega (arith, f.enough);
      within = omega (arith, f.within, weight_le r.age ws as' cs paired);
      few = f.few;
      small = omega (arith, opened_le cs, f.whole);
    }

-- where the old pans leave no bag possible
pub none_left :
    (r : Rule) (ws as' : List ℕ) → length as' ≡ length ws →
    (none_old_empty r.age ws as' && (leb (old_count_of r.age as') r.pans && leb (old_weight_of r.age ws as') (r.target + r.above))) ≡ false →
    NoneOf (fits r ws as')
none_left r ws as' paired test cs = false_from_ne_true (fits r ws as' cs) at
  where
    at : fits r ws as' cs ≡ true → ⊥
    at h =
        let f = fitting r ws as' cs h in
        let old_weight = old_weight_le r.age ws as' cs f.whole f.old_opened in
        let old_count = old_count_le r.age as' cs (f.whole ∙ sym paired) f.old_opened in
        both_ways _ test
        (and_from _ _ (none_old_from r.age ws as' cs f.whole f.filled f.old_opened)
        (and_from _ _ (le-leb (old_count_of r.age as') r.pans (omega (arith, old_count, f.few))) (le-leb (old_weight_of r.age ws as') (r.target + r.above) (omega (arith, old_weight, f.within)))))

-- ---- the table's answer

-- a full table of a ring that may have a bag: the row of all pans, and the window in it
pub record Window (r : Rule) (ws as' : List ℕ) (most start from limit : ℕ) (bytes : List ℕ) : Type 0 where
  pub paired : length as' ≡ length ws
  pub small : length ws ≤ 24
  pub old_count : old_count_of r.age as' ≤ r.pans
  pub old_weight : old_weight_of r.age ws as' ≤ r.target + r.above
  pub span : most ≡ span_of r ws as'
  pub row : Row r.age ws as' from most (row_at bytes start)
  pub enough : from ≡ r.target - old_weight_of r.age ws as'
  pub few : limit ≡ min (r.pans - old_count_of r.age as') 254

-- a weight at which a choice fits is not missed
missed :
    {r : Rule} {ws as' : List ℕ} {most start from limit : ℕ} {bytes : List ℕ} {y : ℕ} {cs : Choice} → Window r ws as' most start from limit bytes →
    Wanted r ws as' y cs → limit < get_or bytes (start + y) 0 → ⊥
missed {y = y} {cs = cs} t w more =
    let low = (t.row.least y (omega (arith, t.enough, w.enough)) (omega (arith, t.span, w.within))).low cs w.makes in omega (arith, low, w.few, w.small, t.small, t.few)

pub none_found :
    {r : Rule} {ws as' : List ℕ} {most start from limit : ℕ} {bytes : List ℕ} → Window r ws as' most start from limit bytes →
    Lightest bytes start from most limit None → NoneOf (fits r ws as')
none_found {r} {ws} {as'} t h cs = false_from_ne_true (fits r ws as' cs) at
  where
    at : fits r ws as' cs ≡ true → ⊥
    at f = let w = wanted r ws as' cs t.paired f in missed t w (h _ (omega (arith, t.enough, w.enough)) (omega (arith, t.span, w.within)))

pub best_found :
    {r : Rule} {ws as' : List ℕ} {most start from limit x number : ℕ} {bytes : List ℕ} → Window r ws as' most start from limit bytes →
    LightestAt bytes start from most limit x → Read r.age ws as' x number →
    BestBag (fits r ws as') ws (record { pans = number; weight = old_weight_of r.age ws as' + x })
unfolding span_of better
best_found {r} {ws} {as'} {most} {start} {from} {limit} {x} {number} {bytes} t h c =
    record {
      choice = c.choice;
      best = record { allowed = fits_from r ws as' c.choice fitted; unbeaten = unbeaten };
      number = c.is;
      weighs = sym c.first.makes.weighs;
    }
  where
    some : (es : Choice) × Makes r.age ws as' x es × (opened es ≡ old_count_of r.age as' + get_or bytes (start + x) 0)
    some = (t.row.least x h.enough h.within).some (omega (arith, h.few, t.few))

    fitted : Fitting r ws as' c.choice
    fitted =
        let m = c.first.makes in
        record {
          whole = m.whole;
          enough = omega (arith, m.weighs, h.enough, t.enough);
          within = omega (arith, m.weighs, h.within, t.span, t.old_weight);
          few = omega (arith, c.first.fewest some.0 some.1, some.2, h.few, t.few, t.old_count);
          filled = m.filled;
          old_opened = m.old_opened;
        }

    unbeaten : (ds : Choice) → fits r ws as' ds ≡ true → better ws ds c.choice ≡ false
    unbeaten ds f =
        not_better (weight_of ws ds) (weight_of ws c.choice) (opened ds) (opened c.choice) (first_more ds c.choice)
        (omega (arith, w.makes.weighs, c.first.makes.weighs, heavy (cases_lt _ x))) (λ same. c.first.fewest ds (makes same)) (λ same. c.first.first ds (makes same))
      where
        w : Wanted r ws as' (weight_of ws ds - old_weight_of r.age ws as') ds
        w = wanted r ws as' ds t.paired f

        heavy :
            (weight_of ws ds - old_weight_of r.age ws as' < x) ⊎ (x ≤ weight_of ws ds - old_weight_of r.age ws as') →
            x ≤ weight_of ws ds - old_weight_of r.age ws as'
        heavy (inl less) = absurd (missed t w (h.lighter _ (omega (arith, t.enough, w.enough)) less))
        heavy (inr more) = more

        makes : weight_of ws ds ≡ weight_of ws c.choice → Makes r.age ws as' x ds
        makes same =
            let m = w.makes in
            record { whole = m.whole; filled = m.filled; old_opened = m.old_opened; weighs = same ∙ c.first.makes.weighs }

-- ---- what the look over the ring tells of all this

-- rows with a pad as long as two pans reach back fit the room that is asked for
pub rows_fit :
    (r : Rule) {ws as' : List ℕ} {s : Survey} {most pad width long : ℕ} → Surveyed r.age ws as' s → most ≡ min (r.target + r.above - s.old_weight) s.free →
    pad ≡ pad_of most s.heaviest → width ≡ width_of most → table_bytes r ws as' ≤ long → (pad + width) * (pairs_of (length ws) + 1) ≤ long
unfolding table_bytes row_bytes
rows_fit r {ws} {as'} {s} h is first wide enough = rw (first, wide, is ∙ span_is r ws as' s h, h.heavy) enough

-- such a pad is a block or more
pad_some : (most heavy : ℕ) → 64 ≤ pad_of most heavy
unfolding pad_of
pad_some most heavy = omega arith

-- so rows with a block as their pad fit too
pub rows_fit_behind_a_block :
    (r : Rule) {ws as' : List ℕ} {s : Survey} {most pad width long : ℕ} → Surveyed r.age ws as' s → most ≡ min (r.target + r.above - s.old_weight) s.free →
    pad ≡ 64 → width ≡ width_of most → table_bytes r ws as' ≤ long → (pad + width) * (pairs_of (length ws) + 1) ≤ long
rows_fit_behind_a_block r {ws} {as'} {s} {most} {pad} {width} h is first wide enough =
    let n = pairs_of (length ws) + 1 in
    let longer = pad_of most s.heaviest + width in
    let more : pad + width ≤ longer = omega (arith, first, pad_some most s.heaviest) in
    omega (
      arith,
      rows_fit r h is refl wide enough,
      mul_comm (pad + width) n,
      mul_comm longer n,
      mul-le-mul_left n more,
    )

pub window :
    {r : Rule} {ws as' : List ℕ} {s : Survey} {most top from pad wide limit : ℕ} {bytes : List ℕ} → Surveyed r.age ws as' s →
    (s.old_filled && (leb s.old_count r.pans && leb s.old_weight (r.target + r.above))) ≡ true → length as' ≡ length ws → length ws ≤ 24 →
    most ≡ min (r.target + r.above - s.old_weight) s.free → most ≤ top → Rows r.age ws as' from top pad wide 0 bytes →
    from ≡ r.target - s.old_weight → limit ≡ min (r.pans - s.old_count) 254 → Window r ws as' most (pad + wide * pairs_of (length ws)) from limit bytes
window {r} {ws} {as'} {s} h test paired small is within rows enough few =
    let p = and_parts s.old_filled _ test in
    let q = and_parts (leb s.old_count r.pans) _ p.1 in
    record {
      paired = paired;
      small = small;
      old_count = omega (arith, leb-true s.old_count r.pans q.0, h.old_count);
      old_weight = omega (arith, leb-true s.old_weight (r.target + r.above) q.1, h.old_weight);
      span = is ∙ span_is r ws as' s h;
      row = record { least = λ x low high. (rows_all rows).least x low (omega arith) };
      enough = omega (arith, h.old_weight);
      few = omega (arith, h.old_count);
    }

-- rows that are right for the window are right for each weight in it
pub rows_from :
    {old : ℕ} {ws as' : List ℕ} {from most pad wide x : ℕ} {bytes : List ℕ} → Rows old ws as' from most pad wide 0 bytes → from ≤ x → Rows old ws as' x most pad wide 0 bytes
rows_from h more = record { row = λ i low high. record { least = λ y enough within. (h.row i low high).least y (omega arith) within }; blank = h.blank }
