-- What a ring's halves answer is what its rule asks for.
use Rattle.std.proofs.Common.{◌≡◌, ℕ, ◌+◌, ◌*◌, ◌^◌, ◌<◌, ◌≤◌, max, true, List, length, get_or, None, Some, Option, sym, refl, ap₂, ◌∙◌, ⊎_elim, arith}
use Rattle.std.proofs.Props.{props}
use Rattle.std.proofs.lemmas.Bool.{and_parts, and_from, cases_Bool, cases_lt, le-ltb}
use Rattle.choices.specs.Choice.{Choice, none_empty, keeps_old, fits}
use Rattle.choices.specs.Numbered.{choice_from}
use Rattle.choices.specs.declared.rule.Rule.{Rule}
use Rattle.choices.proofs.Choices.{fitting, fits_from}
use Rattle.choices.proofs.Counted.{length_choice_from}
use Rattle.choices.proofs.Numbers.{choice_from_number}
use Rattle.halves_places.specs.Place.{by_ways, place}
use Rattle.order.specs.Order.{BestBag, NoneOf}
use Rattle.order.specs.declared.bag.Bag.{Bag}
use Rattle.halves.specs.Asked.{FilledFor, FirstFitting, FirstFrom, FirstSum, NextOf}
use Rattle.halves.specs.Next.{Allowed, First, Next}
use Rattle.halves.specs.declared.filled.Halves.{Halves}
use Rattle.halves.specs.declared.placed.Placed.{Placed}
use Rattle.halves_places.specs.Ring.{ways, Says}
use Rattle.halves_places.proofs.Places.{length_by_ways, better_place, place_says}
use Rattle.halves_places.proofs.Rings.{by_ring, length_ways}
use Rattle.halves.proofs.Asking.{next_is}

-- what is told from a place on has one proof at most, so it may be told of halves of which is only known that they are filled
pub first_fitting_prop : (r : Rule) (ws as' : List ℕ) (from : ℕ) (p : Placed) → IsProp (FirstFitting r ws as' from p)
first_fitting_prop r ws as' from p = hlevel props

pub none_from_prop : (r : Rule) (ws as' : List ℕ) (from : ℕ) → IsProp (FirstFrom r ws as' from None)
none_from_prop r ws as' from = hlevel props

-- what fits a rule is what the ways of the pans allow; it weighs the target or more, so it is asked for from there
module _ (r : Rule) (ws as' : List ℕ) (few : length ws ≤ 24) (paired : length as' ≡ length ws) (asked from : ℕ) (by-from : from ≡ max asked (r.target * 2 ^ 29)) where
  allowed_from : (cs : Choice) → fits r ws as' cs ≡ true → asked ≤ place 0 ws cs → Allowed r.pans ws (ways r.age ws as') from cs × (place 0 ws cs < (r.target + r.above + 1) * 2 ^ 29)
  allowed_from cs e l =
      let f = fitting r ws as' cs e in
      let p = place_says ws cs few f.whole in
      (record { ways = by_ring r.age ws as' cs paired f.whole ∙ and_from _ _ f.filled f.old_opened; few = f.few; enough = omega (arith, p.0, f.enough) }, omega (arith, p.0, f.within))

  whole_allowed : (cs : Choice) → by_ways (ways r.age ws as') cs ≡ true → length cs ≡ length ws
  whole_allowed cs a = length_by_ways (ways r.age ws as') cs a ∙ length_ways r.age ws as' paired

  fits_allowed : (cs : Choice) → Allowed r.pans ws (ways r.age ws as') from cs → place 0 ws cs < (r.target + r.above + 1) * 2 ^ 29 → fits r ws as' cs ≡ true
  fits_allowed cs a l =
      let e = whole_allowed cs a.ways in
      let k = and_parts (none_empty ws cs) (keeps_old r.age as' cs) (sym (by_ring r.age ws as' cs paired e) ∙ a.ways) in
      let p = place_says ws cs few e in
      fits_from r ws as' cs (record { whole = e; enough = omega (arith, p.0, a.enough); within = omega (arith, p.0); few = a.few; filled = k.0; old_opened = k.1 })

  -- so what is told of the choices that fit is told of those that the ways allow
  next_none : FirstFrom r ws as' asked None → Next r.pans ws (ways r.age ws as') from ((r.target + r.above + 1) * 2 ^ 29) None
  next_none f cs a = ⊎_elim (λ l. absurd (omega (arith, f cs (fits_allowed cs a l), a.enough))) (λ l. l) (cases_lt (place 0 ws cs) ((r.target + r.above + 1) * 2 ^ 29))

  next_some : (p : Placed) → FirstFitting r ws as' asked p → First r.pans ws (ways r.age ws as') from ((r.target + r.above + 1) * 2 ^ 29) p.place
  next_some p f =
      let a = allowed_from (choice_from (length ws) p.bag.pans) f.allowed (omega (arith, f.at, f.enough)) in
      record {
        choice = choice_from (length ws) p.bag.pans;
        allowed = a.0;
        at = f.at;
        below = omega (arith, f.at, a.1);
        least = λ cs d. ⊎_elim (λ l. f.first cs (fits_allowed cs d l) (omega (arith, d.enough))) (λ l. omega (arith, f.at, a.1)) (cases_lt (place 0 ws cs) ((r.target + r.above + 1) * 2 ^ 29));
      }

pub first_is_next : (r : Rule) (ws as' : List ℕ) → length ws ≤ 24 → length as' ≡ length ws → (from : ℕ) (o : Option Placed) → FirstFrom r ws as' from o → NextOf r ws as' from o
first_is_next r ws as' few paired from None f = next_none r ws as' few paired from _ refl f
first_is_next r ws as' few paired from (Some p) f = next_some r ws as' few paired from _ refl p f

-- the halves of a ring, asked from a place on
module _ (r : Rule) (ws as' : List ℕ) (few : length ws ≤ 24) (paired : length as' ≡ length ws) (light : (i : ℕ) → get_or ws i 0 ≤ 1000000) (s : Halves) (h : FilledFor r ws as' s) (asked from : ℕ) (by-from : from ≡ max asked (r.target * 2 ^ 29)) where
  next_of : (o : Option ℕ) → FirstSum s from o → Next r.pans ws (ways r.age ws as') from ((r.target + r.above + 1) * 2 ^ 29) o
  next_of o f = rw (h.limit, h.to) at (next_is ws (ways r.age ws as') s few (length_ways r.age ws as' paired) light h.filled from f.0 o (omega (arith, h.least)) f.1 f.2)

  pub first_none : FirstSum s from None → FirstFrom r ws as' asked None
  first_none f cs e = ⊎_elim (λ l. l) (λ l. let a = allowed_from r ws as' few paired asked from by-from cs e l in absurd (omega (arith, a.1, next_of None f cs a.0))) (cases_lt (place 0 ws cs) asked)

  pub first_some : (x : ℕ) (b : Bag) (low : x < 2 ^ 61) → FirstSum s from (Some x) → Says ws x b → FirstFitting r ws as' asked (record { place = x; bag = b; low = low })
  first_some x b low f says =
      let n : First r.pans ws (ways r.age ws as') from ((r.target + r.above + 1) * 2 ^ 29) x = next_of (Some x) f in
      let whole = whole_allowed r ws as' few paired asked from by-from n.choice n.allowed.ways in
      let say = says n.choice whole n.at in
      let same : choice_from (length ws) b.pans ≡ n.choice = ap₂ choice_from (sym whole) say.0 ∙ choice_from_number n.choice in
      record {
        allowed = rw same (fits_allowed r ws as' few paired asked from by-from n.choice n.allowed (omega (arith, n.at, n.below)));
        at = rw same n.at;
        number = rw same say.0;
        weighs = rw same say.1;
        enough = omega (arith, n.at, n.allowed.enough);
        first = λ cs e l. n.least cs (allowed_from r ws as' few paired asked from by-from cs e l).0;
      }

  -- such a place is a small number
  pub first_low : (x : ℕ) → r.target + r.above ≤ 2 ^ 30 → FirstSum s from (Some x) → x < 2 ^ 61
  first_low x l f = let n : First r.pans ws (ways r.age ws as') from ((r.target + r.above + 1) * 2 ^ 29) x = next_of (Some x) f in omega (arith, n.below)

-- the first of all is the best
pub first_is_best : (r : Rule) (ws as' : List ℕ) (p : Placed) → length ws ≤ 24 → FirstFitting r ws as' 0 p → BestBag (fits r ws as') ws p.bag
first_is_best r ws as' p few f =
    let cs = choice_from (length ws) p.bag.pans in
    record {
      choice = cs;
      best = record {
        allowed = f.allowed;
        unbeaten = λ ds e. better_place ws ds cs few (fitting r ws as' ds e).whole (length_choice_from (length ws) p.bag.pans) ∙ le-ltb _ _ (omega (arith, f.at, f.first ds e (omega arith)));
      };
      number = f.number;
      weighs = f.weighs;
    }

pub none_is_none : (r : Rule) (ws as' : List ℕ) → FirstFrom r ws as' 0 None → NoneOf (fits r ws as')
none_is_none r ws as' f cs = ⊎_elim (λ e. absurd (omega (arith, f cs e))) (λ e. e) (cases_Bool (fits r ws as' cs))
