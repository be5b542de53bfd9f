-- Pans taken away and pans forced open: what then fits.
use Rattle.std.proofs.Common.{◌≡◌, ℕ, ◌+◌, Bool, true, false, ◌&&◌, cond, ltb, leb, List, [], ◌∷◌, length, Option, sym, refl, ap, ◌∙◌, arith}
use Rattle.std.proofs.lemmas.Bool.{and_parts, and_from, both_ways}
use Rattle.std.proofs.lemmas.Bool.Decides.{nat_tests}
use Rattle.choices.specs.Choice.{Choice, none_empty, keeps_old, fits, marked, emptied}
use Rattle.choices.specs.declared.rule.Rule.{Rule}
use Rattle.choices.proofs.Choices.{fitting, fits_from}
use Rattle.choices.proofs.Marked.{length_marked}
use Rattle.order.specs.Laws.{SameChoices}
use Rattle.order.specs.Order.{Found}
use Rattle.order.specs.declared.bag.Bag.{Bag}
use Rattle.order.proofs.Over.{found_over}
use Rattle.narrowed.specs.Laws.{EmptiedStayShut, MarksStandForAges, NarrowedFits, NarrowedWeighs, OldStayOpen}
use Rattle.narrowed.specs.Narrow.{apart, by_marks, fits_narrowed, fits_without, made_old, old_marks, opens_all}

-- ---- tests
same_test : (a b : Bool) → (a ≡ true → b ≡ true) → (b ≡ true → a ≡ true) → a ≡ b
same_test true true f g = refl
same_test true false f g = sym (f refl)
same_test false true f g = g refl
same_test false false f g = refl

and_true : (a : Bool) → a ≡ (a && true)
and_true true = refl
and_true false = refl

and_false : (a : Bool) → false ≡ (a && false)
and_false true = refl
and_false false = refl

and_on : (a b d : Bool) → (a && (b && d)) ≡ ((a && b) && d)
and_on true b d = refl
and_on false b d = refl

-- ---- pans taken away
pub emptied_weighs : NarrowedWeighs
emptied_weighs [] ts cs h = refl
emptied_weighs (w ∷ ws) [] cs h = refl
emptied_weighs (w ∷ ws) (t ∷ ts) [] h = refl
emptied_weighs (w ∷ ws) (true ∷ ts) (true ∷ cs) h = absurd (both_ways false refl h)
emptied_weighs (w ∷ ws) (true ∷ ts) (false ∷ cs) h = ap (λ (n : ℕ). 0 + n) (emptied_weighs ws ts cs h)
emptied_weighs (w ∷ ws) (false ∷ ts) (true ∷ cs) h = ap (λ (n : ℕ). w + n) (emptied_weighs ws ts cs h)
emptied_weighs (w ∷ ws) (false ∷ ts) (false ∷ cs) h = ap (λ (n : ℕ). 0 + n) (emptied_weighs ws ts cs h)

none_empty_emptied : (ws : List ℕ) (ts cs : Choice) → length cs ≡ length ws → none_empty (emptied ws ts) cs ≡ (none_empty ws cs && apart ts cs)
none_empty_emptied [] [] cs e = refl
none_empty_emptied [] (t ∷ ts) [] e = refl
none_empty_emptied [] (t ∷ ts) (c ∷ cs) e = absurd (omega arith)
none_empty_emptied (w ∷ ws) ts [] e = absurd (omega arith)
none_empty_emptied (w ∷ ws) [] (c ∷ cs) e = and_true _
none_empty_emptied (w ∷ ws) (true ∷ ts) (true ∷ cs) e = and_false _
none_empty_emptied (w ∷ ws) (true ∷ ts) (false ∷ cs) e = none_empty_emptied ws ts cs (omega arith)
none_empty_emptied (w ∷ ws) (false ∷ ts) (true ∷ cs) e = ap (λ (b : Bool). leb 1 w && b) (none_empty_emptied ws ts cs (omega arith)) ∙ and_on (leb 1 w) (none_empty ws cs) (apart ts cs)
none_empty_emptied (w ∷ ws) (false ∷ ts) (false ∷ cs) e = none_empty_emptied ws ts cs (omega arith)

pub emptied_stay_shut : EmptiedStayShut
emptied_stay_shut r ws as' ts cs = same_test _ _ there back
  where
    there : fits r (emptied ws ts) as' cs ≡ true → fits_without r ws as' ts cs ≡ true
    there h =
        let f = fitting r (emptied ws ts) as' cs h in
        let whole : length cs ≡ length ws = f.whole ∙ length_marked _ ws ts in
        let p = and_parts (none_empty ws cs) (apart ts cs) (sym (none_empty_emptied ws ts cs whole) ∙ f.filled) in
        let same = emptied_weighs ws ts cs p.1 in
        and_from _ _ (fits_from r ws as' cs (record { whole = whole; enough = rw same at f.enough; within = rw same at f.within; few = f.few; filled = p.0; old_opened = f.old_opened })) p.1

    back : fits_without r ws as' ts cs ≡ true → fits r (emptied ws ts) as' cs ≡ true
    back h =
        let p = and_parts (fits r ws as' cs) (apart ts cs) h in
        let f = fitting r ws as' cs p.0 in
        let same = emptied_weighs ws ts cs p.1 in
        fits_from r (emptied ws ts) as' cs
        (record {
          whole = f.whole ∙ sym (length_marked _ ws ts);
          enough = rw same f.enough;
          within = rw same f.within;
          few = f.few;
          filled = none_empty_emptied ws ts cs f.whole ∙ and_from _ _ f.filled p.1;
          old_opened = f.old_opened;
        })

-- ---- pans forced open
-- ages that are changed so that the pans of a choice are old, and all others are old where they were
module _ (old by : ℕ) (f : Bool → ℕ → ℕ) (forced : (a : ℕ) → ltb (f true a) by ≡ false) (kept : (a : ℕ) → ltb (f false a) by ≡ ltb a old) where
  keeps_old_marked : (as' : List ℕ) (ts cs : Choice) → length ts ≡ length as' → length cs ≡ length as' → keeps_old by (marked f as' ts) cs ≡ (keeps_old old as' cs && opens_all ts cs)
  keeps_old_marked [] [] cs d e = refl
  keeps_old_marked [] (t ∷ ts) cs d e = absurd (omega arith)
  keeps_old_marked (a ∷ as') [] cs d e = absurd (omega arith)
  keeps_old_marked (a ∷ as') (t ∷ ts) [] d e = absurd (omega arith)
  keeps_old_marked (a ∷ as') (true ∷ ts) (true ∷ cs) d e = keeps_old_marked as' ts cs (omega arith) (omega arith)
  keeps_old_marked (a ∷ as') (true ∷ ts) (false ∷ cs) d e = ap (λ (b : Bool). b && keeps_old by (marked f as' ts) cs) (forced a) ∙ and_false _
  keeps_old_marked (a ∷ as') (false ∷ ts) (true ∷ cs) d e = keeps_old_marked as' ts cs (omega arith) (omega arith)
  keeps_old_marked (a ∷ as') (false ∷ ts) (false ∷ cs) d e =
      ap (λ (b : Bool). b && keeps_old by (marked f as' ts) cs) (kept a)
      ∙ (ap (λ (b : Bool). ltb a old && b) (keeps_old_marked as' ts cs (omega arith) (omega arith)) ∙ and_on (ltb a old) (keeps_old old as' cs) (opens_all ts cs))

-- ages of which is known what they say of the old pans
ages_changed :
    (r q : Rule) (ws as' bs : List ℕ) (us cs : Choice) → r.target ≡ q.target → r.above ≡ q.above → r.pans ≡ q.pans →
    (length cs ≡ length ws → keeps_old q.age bs cs ≡ (keeps_old r.age as' cs && opens_all us cs)) → fits q ws bs cs ≡ (fits r ws as' cs && opens_all us cs)
ages_changed r q ws as' bs us cs target above pans says = same_test _ _ there back
  where
    there : fits q ws bs cs ≡ true → (fits r ws as' cs && opens_all us cs) ≡ true
    there h =
        let f = fitting q ws bs cs h in
        let p = and_parts (keeps_old r.age as' cs) (opens_all us cs) (sym (says f.whole) ∙ f.old_opened) in
        and_from _ _ (fits_from r ws as' cs (record { whole = f.whole; enough = omega (arith, f.enough); within = omega (arith, f.within); few = omega (arith, f.few); filled = f.filled; old_opened = p.0 })) p.1

    back : (fits r ws as' cs && opens_all us cs) ≡ true → fits q ws bs cs ≡ true
    back h =
        let p = and_parts (fits r ws as' cs) (opens_all us cs) h in
        let f = fitting r ws as' cs p.0 in
        fits_from q ws bs cs
        (record { whole = f.whole; enough = omega (arith, f.enough); within = omega (arith, f.within); few = omega (arith, f.few); filled = f.filled; old_opened = says f.whole ∙ and_from _ _ f.old_opened p.1 })

pub old_stay_open : OldStayOpen
old_stay_open r ws as' ts cs paired shut =
    ages_changed r r ws as' (made_old r.age as' ts) ts cs refl refl refl
    (λ e. keeps_old_marked r.age r.age _ (λ a. grind (arith, nat_tests)) (λ a. refl) as' ts cs (shut ∙ sym paired) (e ∙ sym paired))

pub marks_stand_for_ages : MarksStandForAges
marks_stand_for_ages r ws as' us cs paired open' =
    ages_changed r (by_marks r) ws as' (old_marks r.age as' us) us cs refl refl refl
    (λ e. keeps_old_marked r.age 1 _ (λ a. refl) (λ a. young a (leb r.age a) refl) as' us cs (open' ∙ sym paired) (e ∙ sym paired))
  where
    young : (a : ℕ) (b : Bool) → leb r.age a ≡ b → ltb (cond b 1 0) 1 ≡ ltb a r.age
    young a true h = grind (arith, nat_tests)
    young a false h = grind (arith, nat_tests)

-- ---- both at once
pub narrowed_fits : NarrowedFits
narrowed_fits r ws as' ts us cs paired open' =
    emptied_stay_shut (by_marks r) ws (old_marks r.age as' us) ts cs
    ∙ (ap (λ (b : Bool). b && apart ts cs) (marks_stand_for_ages r ws as' us cs paired open') ∙ swap (fits r ws as' cs) (opens_all us cs) (apart ts cs))
  where
    swap : (a b d : Bool) → ((a && b) && d) ≡ ((a && d) && b)
    swap false b d = refl
    swap true true true = refl
    swap true true false = refl
    swap true false true = refl
    swap true false false = refl

pub found_narrowed :
    (r : Rule) (ws as' : List ℕ) (ts us : Choice) (o : Option Bag) → length as' ≡ length ws → length us ≡ length ws →
    Found (fits (by_marks r) (emptied ws ts) (old_marks r.age as' us)) (emptied ws ts) o → Found (fits_narrowed r ws as' ts us) ws o
found_narrowed r ws as' ts us o paired open' = found_over _ _ _ _ o same
  where
    same : SameChoices (fits (by_marks r) (emptied ws ts) (old_marks r.age as' us)) (fits_narrowed r ws as' ts us) (emptied ws ts) ws
    same =
        record {
          same = λ cs. narrowed_fits r ws as' ts us cs paired open';
          weighs = λ cs h.
              let p = and_parts (fits_without r ws as' ts cs) (opens_all us cs) (sym (narrowed_fits r ws as' ts us cs paired open') ∙ h) in
              emptied_weighs ws ts cs (and_parts (fits r ws as' cs) (apart ts cs) p.0).1;
        }
