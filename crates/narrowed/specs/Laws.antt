-- The laws of changed rings and rules, as statements.
--   EmptiedStayShut     with pans emptied, what fits is just what fits and opens none of them
--   OldStayOpen         with pans made old, what fits is just what fits and opens all of them
--   MarksStandForAges   marks of 0 and 1 by a rule's age of 1 say just what the ages say, whatever the rule's age
--   NarrowedFits        pans emptied, and others marked: what fits is just what fits, opens none of the former, and all the latter
--   NarrowedWeighs      what opens none of the emptied pans weighs what it did
--   LooserStillFits     what fits a rule fits a looser one
--   LooserFinds         where a rule has a bag a looser one has one that is no heavier
--   NoneStays           where a looser rule has none, neither has the stricter
use Rattle.std.specs.Prelude.{◌≡◌, ℕ, ◌≤◌, true, List, length, Option, Some}
use Rattle.choices.specs.Choice.{Choice, emptied, fits, weight_of}
use Rattle.choices.specs.Stand.{Looser}
use Rattle.choices.specs.declared.rule.Rule.{Rule}
use Rattle.order.specs.Order.{Found, NoneOf}
use Rattle.order.specs.declared.bag.Bag.{Bag}
use Rattle.narrowed.specs.Narrow.{apart, by_marks, fits_narrowed, fits_opening, fits_without, made_old, old_marks}

abbrev pub EmptiedStayShut : Type 0
EmptiedStayShut = (r : Rule) (ws as' : List ℕ) (ts cs : Choice) → fits r (emptied ws ts) as' cs ≡ fits_without r ws as' ts cs

abbrev pub OldStayOpen : Type 0
OldStayOpen =
    (r : Rule) (ws as' : List ℕ) (ts cs : Choice) → length as' ≡ length ws → length ts ≡ length ws →
    fits r ws (made_old r.age as' ts) cs ≡ fits_opening r ws as' ts cs

abbrev pub MarksStandForAges : Type 0
MarksStandForAges =
    (r : Rule) (ws as' : List ℕ) (us cs : Choice) → length as' ≡ length ws → length us ≡ length ws →
    fits (by_marks r) ws (old_marks r.age as' us) cs ≡ fits_opening r ws as' us cs

abbrev pub NarrowedFits : Type 0
NarrowedFits =
    (r : Rule) (ws as' : List ℕ) (ts us cs : Choice) → length as' ≡ length ws → length us ≡ length ws →
    fits (by_marks r) (emptied ws ts) (old_marks r.age as' us) cs ≡ fits_narrowed r ws as' ts us cs

abbrev pub NarrowedWeighs : Type 0
NarrowedWeighs = (ws : List ℕ) (ts cs : Choice) → apart ts cs ≡ true → weight_of (emptied ws ts) cs ≡ weight_of ws cs

abbrev pub LooserStillFits : Type 0
LooserStillFits = (r q : Rule) (ws as' : List ℕ) (cs : Choice) → Looser r q → fits r ws as' cs ≡ true → fits q ws as' cs ≡ true

abbrev pub LooserFinds : Type 0
LooserFinds =
    (r q : Rule) (ws as' : List ℕ) (b : Bag) (o : Option Bag) → Looser r q →
    Found (fits r ws as') ws (Some b) → Found (fits q ws as') ws o → (d : Bag) × (o ≡ Some d) × (d.weight ≤ b.weight)

abbrev pub NoneStays : Type 0
NoneStays = (r q : Rule) (ws as' : List ℕ) → Looser r q → NoneOf (fits q ws as') → NoneOf (fits r ws as')
