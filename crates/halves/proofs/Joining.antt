-- The three parts of the pans and what is found among their entries.
use Rattle.std.proofs.Common.{◌≡◌, ℕ, ◌+◌, ◌-◌, ◌*◌, ◌^◌, ◌<◌, ◌≤◌, true, List, ◌++◌, length, get_or, drop, sym, ap, ◌∙◌, ⊎_elim, arith}
use Rattle.std.proofs.lemmas.Bool.{cases_lt}
use Rattle.std.proofs.lemmas.List.{length-take, length-drop, length-append, drop-drop, take_at, drop_at, take_all}
use Rattle.choices.specs.Choice.{Choice, opened}
use Rattle.halves_places.specs.Place.{by_ways, place, pans_in}
use Rattle.halves_places.specs.declared.way.Way.{Way}
use Rattle.halves_places.proofs.Places.{length_by_ways, place_says, place_below}
use Rattle.halves_growth.specs.Entries.{Holds}
use Rattle.halves_sieves.specs.Sieve.{part}
use Rattle.halves_sieves.specs.declared.bounds.Bounds.{Bounds}
use Rattle.halves_sieves.proofs.Parts.{opened_cut}
use Rattle.halves_sweeps.specs.Sweep.{Apart, LeastOf, Together, Triple}
use Rattle.halves.specs.Half.{Half, Wanted}
use Rattle.halves.specs.Next.{Allowed, First}
use Rattle.halves.proofs.Cutting.{by_ways_uncut, pans_part, place_part, back_all}
use Rattle.halves.proofs.RoomParts.{heavy_take, heavy_drop}

-- a choice of each part
pub record Parts (us fs bs : Choice) (t h : ℕ) : Type 0 where
  pub tops : length us ≡ t
  pub front : length fs ≡ h
  pub back : length bs ≡ h

-- together they are a choice of all, whose parts they are
module _ (us fs bs : Choice) (t h : ℕ) (p : Parts us fs bs t h) where
  whole : Choice
  whole = us ++ (fs ++ bs)

  pub whole_long : length (us ++ (fs ++ bs)) ≡ t + (h + h)
  whole_long = omega (arith, length-append us (fs ++ bs), length-append fs bs, p.tops, p.front, p.back)

  pub whole_tops : part 0 t (us ++ (fs ++ bs)) ≡ us
  whole_tops = take_at us (fs ++ bs) t p.tops

  rest : drop t (us ++ (fs ++ bs)) ≡ fs ++ bs
  rest = drop_at us (fs ++ bs) t p.tops

  pub whole_front : part t h (us ++ (fs ++ bs)) ≡ fs
  whole_front = rw rest (take_at fs bs h p.front)

  last : drop (t + h) (us ++ (fs ++ bs)) ≡ bs
  last = sym (drop-drop h t (us ++ (fs ++ bs))) ∙ rw rest (drop_at fs bs h p.front)

  pub whole_back : part (t + h) h (us ++ (fs ++ bs)) ≡ bs
  whole_back = rw last (take_all h bs (omega (arith, p.back)))

pub by_ways_three :
    (vs : List Way) (cs : Choice) (t h : ℕ) → length vs ≡ t + (h + h) → length cs ≡ t + (h + h) →
    by_ways (part 0 t vs) (part 0 t cs) ≡ true → by_ways (part t h vs) (part t h cs) ≡ true → by_ways (part (t + h) h vs) (part (t + h) h cs) ≡ true → by_ways vs cs ≡ true
by_ways_three vs cs t h e f a b c =
    let d : by_ways (drop h (drop t vs)) (drop h (drop t cs)) ≡ true = rw (drop-drop h t vs, drop-drop h t cs) (rw (back_all t h vs e, back_all t h cs f) at c) in
    by_ways_uncut t vs cs a (by_ways_uncut h (drop t vs) (drop t cs) b d)

pub opened_three : (cs : Choice) (t h : ℕ) → length cs ≡ t + (h + h) → opened cs ≡ opened (part 0 t cs) + (opened (part t h cs) + opened (part (t + h) h cs))
opened_three cs t h e = omega (arith, opened_cut t cs, opened_cut h (drop t cs), ap opened (drop-drop h t cs), ap opened (back_all t h cs e))

-- an entry of a part is some choice's
pub record Entry (ws : List ℕ) (vs : List Way) (skip len x : ℕ) : Type 0 where
  pub choice : Choice
  pub ways : by_ways (part skip len vs) choice ≡ true
  pub at : place (length ws - (skip + len)) (part skip len ws) choice ≡ x
  pub long : length choice ≡ len
  pub pans : pans_in x ≡ opened choice
  pub low : x < 2 ^ 62

module _ (lim : Bounds) (ws : List ℕ) (vs : List Way) (few : length ws ≤ 24) (paired : length vs ≡ length ws) (light : (i : ℕ) → get_or ws i 0 ≤ 1000000) where
  pub entry : (skip len : ℕ) (es : List ℕ) (n : ℕ) → skip + len ≤ length ws → Half lim ws vs skip len es n → (q : ℕ) → q < n → Entry ws vs skip len (get_or es q 0)
  entry skip len es n within h q l =
      let x = h.only q l in
      let weights : length (part skip len ws) ≡ len = omega (arith, length-take len (drop skip ws), length-drop skip ws) in
      let ways : length (part skip len vs) ≡ len = omega (arith, length-take len (drop skip vs), length-drop skip vs) in
      let long : length x.0 ≡ len = length_by_ways (part skip len vs) x.0 x.1 ∙ ways in
      let b = length ws - (skip + len) in
      let all : b + length (part skip len ws) ≤ 24 = omega arith in
      record {
        choice = x.0;
        ways = x.1;
        at = x.2;
        long = long;
        pans = ap pans_in (sym x.2) ∙ pans_part b (part skip len ws) x.0 (long ∙ sym weights) all;
        low = omega (arith, x.2, place_below b (part skip len ws) x.0 (heavy_take 1000000 len (drop skip ws) (heavy_drop 1000000 skip ws light)) all (long ∙ sym weights));
      }

  pub half_low : (skip len : ℕ) (es : List ℕ) (n : ℕ) → skip + len ≤ length ws → Half lim ws vs skip len es n → (q : ℕ) → q < n → get_or es q 0 < 2 ^ 62
  half_low skip len es n within h q l = (entry skip len es n within h q l).low

-- the choice that a top and an entry of each half make
pub record Joined (ws : List ℕ) (vs : List Way) (ts fs bs : List ℕ) (i p q : ℕ) : Type 0 where
  pub choice : Choice
  pub ways : by_ways vs choice ≡ true
  pub at : place 0 ws choice ≡ get_or ts i 0 + (get_or fs p 0 + get_or bs q 0)
  pub count : opened choice ≡ pans_in (get_or ts i 0) + (pans_in (get_or bs q 0) + pans_in (get_or fs p 0))
  pub long : length choice ≡ length ws

-- a top and an entry of each half that add up to x
pub record Held (ts fs bs : List ℕ) (x : ℕ) : Type 0 where
  pub i : ℕ
  pub p : ℕ
  pub q : ℕ
  pub top : i < length ts
  pub front : p < length fs
  pub back : q < length bs
  pub adds : x ≡ get_or ts i 0 + (get_or fs p 0 + get_or bs q 0)

-- the three parts, whole
module _
    (lim : Bounds) (ws : List ℕ) (vs : List Way) (few : length ws ≤ 24) (paired : length vs ≡ length ws) (light : (i : ℕ) → get_or ws i 0 ≤ 1000000) (t h : ℕ) (three : length ws ≡ t + (h + h)) (ts fs bs : List ℕ)
    (tops : Half lim ws vs 0 t ts (length ts)) (front : Half lim ws vs t h fs (length fs)) (back : Half lim ws vs (t + h) h bs (length bs))
  where
    pub top_entry : (i : ℕ) → i < length ts → Entry ws vs 0 t (get_or ts i 0)
    top_entry = entry lim ws vs few paired light 0 t ts (length ts) (omega arith) tops

    pub front_entry : (p : ℕ) → p < length fs → Entry ws vs t h (get_or fs p 0)
    front_entry = entry lim ws vs few paired light t h fs (length fs) (omega arith) front

    pub back_entry : (q : ℕ) → q < length bs → Entry ws vs (t + h) h (get_or bs q 0)
    back_entry = entry lim ws vs few paired light (t + h) h bs (length bs) (omega arith) back

    pub tops_low : (i : ℕ) → i < length ts → get_or ts i 0 < 2 ^ 62
    tops_low i l = (top_entry i l).low

    place_three :
        (cs : Choice) → length cs ≡ length ws →
        place 0 ws cs ≡ place (length ws - (0 + t)) (part 0 t ws) (part 0 t cs) + (place (length ws - (t + h)) (part t h ws) (part t h cs) + place (length ws - (t + h + h)) (part (t + h) h ws) (part (t + h) h cs))
    place_three cs e =
        let p = place_part ws cs e t h in
        let a : 0 + t ≡ t = omega arith in
        let b : length ws - (t + h + h) ≡ 0 = omega arith in
        rw (a, b, back_all t h ws three, back_all t h cs (e ∙ three)) (omega (arith, p.0, p.1))

    -- an entry of each part make a choice
    pub joined : (i p q : ℕ) → i < length ts → p < length fs → q < length bs → Joined ws vs ts fs bs i p q
    joined i p q a b c =
        let x = top_entry i a in
        let y = front_entry p b in
        let z = back_entry q c in
        let parts : Parts x.choice y.choice z.choice t h = record { tops = x.long; front = y.long; back = z.long } in
        let cs = x.choice ++ (y.choice ++ z.choice) in
        let long : length cs ≡ t + (h + h) = whole_long x.choice y.choice z.choice t h parts in
        let tp : part 0 t cs ≡ x.choice = whole_tops x.choice y.choice z.choice t h parts in
        let fp : part t h cs ≡ y.choice = whole_front x.choice y.choice z.choice t h parts in
        let bp : part (t + h) h cs ≡ z.choice = whole_back x.choice y.choice z.choice t h parts in
        record {
          choice = cs;
          ways = by_ways_three vs cs t h (paired ∙ three) long (rw tp x.ways) (rw fp y.ways) (rw bp z.ways);
          at = place_three cs (long ∙ sym three) ∙ rw (tp, fp, bp) (omega (arith, x.at, y.at, z.at));
          count = opened_three cs t h long ∙ rw (tp, fp, bp) (omega (arith, x.pans, y.pans, z.pans));
          long = long ∙ sym three;
        }

    pub apart : Apart ts fs bs
    apart i p q a b c =
        let j = joined i p q a b c in
        ap pans_in (sym j.at) ∙ ((place_says ws j.choice few j.long).1 ∙ j.count)

    -- a wanted choice is a top and an entry of each half
    pub held : (es : Choice) → Wanted lim ws vs es → Held ts fs bs (place 0 ws es)
    held es a =
        let u : Holds ts (length ts) (place (length ws - (0 + t)) (part 0 t ws) (part 0 t es)) = tops.every es a in
        let v : Holds fs (length fs) (place (length ws - (t + h)) (part t h ws) (part t h es)) = front.every es a in
        let w : Holds bs (length bs) (place (length ws - (t + h + h)) (part (t + h) h ws) (part (t + h) h es)) = back.every es a in
        record { i = u.0; p = v.0; q = w.0; top = u.1; front = v.1; back = w.1; adds = omega (arith, place_three es a.bounded.whole, u.2, v.2, w.2) }

    pub least_of : (from x : ℕ) → lim.least * 2 ^ 29 ≤ from → LeastOf (Together lim.limit) (length ts) ts fs bs from lim.to x → (es : Choice) → Allowed lim.limit ws vs from es → x ≤ place 0 ws es
    least_of from x far g es a = ⊎_elim below (λ l. omega (arith, g.high)) (cases_lt (place 0 ws es) lim.to)
      where
        long : length es ≡ length ws
        long = length_by_ways vs es a.ways ∙ paired

        below : place 0 ws es < lim.to → x ≤ place 0 ws es
        below l =
            let says = place_says ws es few long in
            let w : Held ts fs bs (place 0 ws es) = held es (record { ways = a.ways; bounded = record { whole = long; few = a.few; enough = omega (arith, says.0, a.enough) }; below = l }) in
            let together : Together lim.limit (get_or ts w.i 0) (get_or bs w.q 0) (get_or fs w.p 0) =
            omega (arith, a.few, says.1, ap pans_in w.adds, apart w.i w.p w.q w.top w.front w.back) in
            omega (arith, w.adds, g.least w.i w.p w.q w.top w.front w.back together (omega (arith, w.adds, a.enough)))

    pub first_of : (from x : ℕ) → lim.least * 2 ^ 29 ≤ from → x < lim.to → LeastOf (Together lim.limit) (length ts) ts fs bs from lim.to x → First lim.limit ws vs from lim.to x
    first_of from x far l g =
        let v : Triple (Together lim.limit) (length ts) ts fs bs from x = g.found l in
        let j = joined v.t v.p v.q v.top v.front v.back in
        record {
          choice = j.choice;
          allowed = record { ways = j.ways; few = omega (arith, j.count, v.right); enough = omega (arith, j.at, v.adds, v.enough) };
          at = omega (arith, j.at, v.adds);
          below = l;
          least = least_of from x far g;
        }
