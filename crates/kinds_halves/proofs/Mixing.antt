-- The least sum that passes is the best choice that mixes.
use Rattle.std.proofs.Common.{◌≡◌, ℕ, ◌+◌, ◌*◌, ◌%◌, ◌^◌, ◌<◌, ◌≤◌, true, List, length, get_or, take, leb, refl, sym, ap, ◌∙◌, ⊎_elim, arith}
use Rattle.std.proofs.lemmas.Bool.{and_parts, and_from, cases_Bool, le-leb, le-ltb, leb-true}
use Rattle.choices.specs.Choice.{Choice, fits, keeps_old, none_empty}
use Rattle.choices.specs.Numbered.{choice_of}
use Rattle.choices.specs.declared.rule.Rule.{Rule}
use Rattle.choices.proofs.Choices.{fitting, fits_from}
use Rattle.choices.proofs.Numbers.{choice_of_code, code}
use Rattle.halves_places.specs.Place.{pans_in, place}
use Rattle.halves_places.specs.Ring.{Says, ways}
use Rattle.halves_places.proofs.Places.{better_place, place_says}
use Rattle.halves_places.proofs.Rings.{by_ring, length_ways, lowest}
use Rattle.halves_sweeps.specs.Sweep.{Triple}
use Rattle.halves.specs.Asked.{FilledFor}
use Rattle.halves.specs.Half.{Wanted}
use Rattle.halves.specs.declared.filled.Halves.{Halves}
use Rattle.halves.specs.Entries.{before, half_of}
use Rattle.halves.proofs.Asking.{asked_back, asked_front, asked_held, asked_joined, asked_low, asked_top}
use Rattle.halves.proofs.Joining.{Held, Joined}
use Rattle.kinds.specs.Kinds.{in_windows, mixes}
use Rattle.kinds.specs.declared.mixed.Window.{Window}
use Rattle.kinds_halves.specs.Passing.{passes_by, told}
use Rattle.kinds_halves.proofs.Clearing.{entry_clear, entry_shut}
use Rattle.kinds_halves.specs.Walk.{LeastPassing, Passing}
use Rattle.order.specs.Order.{BestBag, NoneOf}
use Rattle.order.specs.declared.bag.Bag.{Bag}

-- a place tells of the choice that has it
told_place : (ws : List ℕ) (cs : Choice) → length ws ≤ 24 → length cs ≡ length ws → told (length ws) (place 0 ws cs) ≡ cs
told_place ws cs few e = ap (choice_of (length ws)) (lowest ws cs (length ws) few refl e) ∙ (ap (λ (n : ℕ). choice_of n (code cs)) (sym e) ∙ choice_of_code cs)

module _ (r : Rule) (vs : List Window) (ks ws as' : List ℕ) (few : length ws ≤ 24) (paired : length as' ≡ length ws) (light : (i : ℕ) → get_or ws i 0 ≤ 1000000) (s : Halves) (h : FilledFor r ws as' s) where
  long : length (ways r.age ws as') ≡ length ws
  long = length_ways r.age ws as' paired

  pub tops_low : (t : ℕ) → t < length (take s.top s.tops) → get_or (take s.top s.tops) t 0 < 2 ^ 62
  tops_low = asked_low ws (ways r.age ws as') s few long light h.filled

  pub tops_clear : (t : ℕ) → t < length (take s.top s.tops) → get_or (take s.top s.tops) t 0 % 2 ^ half_of (length ws) ≡ 0
  tops_clear t l = entry_clear ws (ways r.age ws as') few 0 (before (length ws)) _ (asked_top ws (ways r.age ws as') s few long light h.filled t l) (omega arith) (half_of (length ws)) (omega arith)

  pub front_clear : (p : ℕ) → p < length s.lists.front.now → get_or s.lists.front.now p 0 % 2 ^ half_of (length ws) ≡ 0
  front_clear p l =
      entry_clear ws (ways r.age ws as') few (before (length ws)) (half_of (length ws)) _ (asked_front ws (ways r.age ws as') s few long light h.filled p l) (omega arith) (half_of (length ws)) (omega arith)

  pub back_shut : (q : ℕ) → q < length s.lists.back.now → get_or s.lists.back.now q 0 % 2 ^ 24 < 2 ^ half_of (length ws)
  back_shut q l =
      entry_shut ws (ways r.age ws as') few (before (length ws) + half_of (length ws)) (half_of (length ws)) _ (asked_back ws (ways r.age ws as') s few long light h.filled q l) (omega arith) (omega arith)

  module _ (from x : ℕ) (is : from ≡ r.target * 2 ^ 29) (g : LeastPassing (passes_by r.pans vs ks ws) (length (take s.top s.tops)) (take s.top s.tops) s.lists.front.now s.lists.back.now from s.bounds.to x) where
    -- what mixes is a sum that passes
    no_better : (cs : Choice) → mixes r vs ks ws as' cs ≡ true → x ≤ place 0 ws cs × (place 0 ws cs < s.bounds.to)
    no_better cs e =
        let m = and_parts (fits r ws as' cs) (in_windows 0 vs ks ws cs) e in
        let f = fitting r ws as' cs m.0 in
        let p = place_says ws cs few f.whole in
        let below : place 0 ws cs < s.bounds.to = omega (arith, p.0, f.within, h.to) in
        let w : Wanted s.bounds ws (ways r.age ws as') cs =
        record {
          ways = by_ring r.age ws as' cs paired f.whole ∙ and_from _ _ f.filled f.old_opened;
          bounded = record { whole = f.whole; few = omega (arith, f.few, h.limit); enough = omega (arith, f.enough, h.least) };
          below = below;
        } in
        let d : Held (take s.top s.tops) s.lists.front.now s.lists.back.now (place 0 ws cs) = asked_held ws (ways r.age ws as') s few long light h.filled cs w in
        let limit : leb (pans_in (place 0 ws cs)) r.pans ≡ true = le-leb _ _ (omega (arith, p.1, f.few)) in
        let ok : passes_by r.pans vs ks ws (place 0 ws cs) ≡ true = and_from _ _ limit (rw (told_place ws cs few f.whole) m.1) in
        (omega (arith, d.adds, g.least d.i d.p d.q d.top d.front d.back (rw d.adds at ok) (omega (arith, d.adds, p.0, f.enough))), below)

    pub none_mixes : s.bounds.to ≤ x → NoneOf (mixes r vs ks ws as')
    none_mixes l cs = ⊎_elim (λ e. let b = no_better cs e in absurd (omega (arith, b.0, b.1))) (λ e. e) (cases_Bool (mixes r vs ks ws as' cs))

    pub least_is_best : (b : Bag) → x < s.bounds.to → Says ws x b → BestBag (mixes r vs ks ws as') ws b
    least_is_best b l says =
        let v : Triple (Passing (passes_by r.pans vs ks ws)) (length (take s.top s.tops)) (take s.top s.tops) s.lists.front.now s.lists.back.now from x = g.found l in
        let j : Joined ws (ways r.age ws as') (take s.top s.tops) s.lists.front.now s.lists.back.now v.t v.p v.q = asked_joined ws (ways r.age ws as') s few long light h.filled v.t v.p v.q v.top v.front v.back in
        let cs = j.choice in
        let at : place 0 ws cs ≡ x = j.at ∙ v.adds in
        let ok : passes_by r.pans vs ks ws x ≡ true = rw v.adds at v.right in
        let m = and_parts (leb (pans_in x) r.pans) (in_windows 0 vs ks ws (told (length ws) x)) ok in
        let p = place_says ws cs few j.long in
        let k = and_parts (none_empty ws cs) (keeps_old r.age as' cs) (sym (by_ring r.age ws as' cs paired j.long) ∙ j.ways) in
        let fit : fits r ws as' cs ≡ true =
        fits_from r ws as' cs
        (record {
          whole = j.long;
          enough = omega (arith, p.0, at, v.enough);
          within = omega (arith, p.0, at, l, h.to);
          few = omega (arith, ap pans_in at, p.1, leb-true _ _ m.0);
          filled = k.0;
          old_opened = k.1;
        }) in
        let say = says cs j.long at in
        record {
          choice = cs;
          best = record {
            allowed = and_from _ _ fit (rw (ap (told (length ws)) (sym at) ∙ told_place ws cs few j.long) at m.1);
            unbeaten = λ ds e. better_place ws ds cs few (fitting r ws as' ds (and_parts _ _ e).0).whole j.long ∙ le-ltb _ _ (omega (arith, at, (no_better ds e).0));
          };
          number = say.0;
          weighs = say.1;
        }
