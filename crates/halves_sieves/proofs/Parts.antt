-- A choice of all pans is a choice of each part: the counts, the weights and the places of the parts add up.
use Rattle.std.proofs.Common.{◌≡◌, ℕ, zero, suc, ◌+◌, ◌-◌, ◌*◌, ◌^◌, ◌≤◌, List, [], ◌∷◌, ◌++◌, length, get_or, take, drop, sym, ap, ◌∙◌, arith, pow_mono}
use Rattle.std.proofs.lemmas.List.{length-take, length-drop, length-append, drop-drop}
use Rattle.choices.specs.Choice.{Choice, weight_of, opened}
use Rattle.halves_places.specs.Place.{place, pans_in}
use Rattle.halves_places.proofs.Places.{in_place}
use Rattle.halves_growth.specs.Entries.{Holds}
use Rattle.halves_sieves.specs.Sieve.{part, Bounded, Most, Short, Kept, Sieved, Thinned}
use Rattle.halves_sieves.specs.declared.bounds.Bounds.{Bounds}

-- cut in two
pub weight_cut : (n : ℕ) (ws : List ℕ) (cs : Choice) → length cs ≡ length ws → weight_of ws cs ≡ weight_of (take n ws) (take n cs) + weight_of (drop n ws) (drop n cs)
weight_cut zero ws cs e = omega arith
weight_cut (suc n) [] cs e = omega arith
weight_cut (suc n) (w ∷ ws) [] e = absurd (omega arith)
weight_cut (suc n) (w ∷ ws) (c ∷ cs) e = omega (arith, weight_cut n ws cs (omega arith))

pub opened_cut : (n : ℕ) (cs : Choice) → opened cs ≡ opened (take n cs) + opened (drop n cs)
opened_cut zero cs = omega arith
opened_cut (suc n) [] = omega arith
opened_cut (suc n) (c ∷ cs) = omega (arith, opened_cut n cs)

-- put together again
pub weight_join : (us ws : List ℕ) (cs ds : Choice) → length cs ≡ length us → weight_of (us ++ ws) (cs ++ ds) ≡ weight_of us cs + weight_of ws ds
weight_join [] ws [] ds e = omega arith
weight_join [] ws (c ∷ cs) ds e = absurd (omega arith)
weight_join (u ∷ us) ws [] ds e = absurd (omega arith)
weight_join (u ∷ us) ws (c ∷ cs) ds e = omega (arith, weight_join us ws cs ds (omega arith))

pub opened_join : (cs ds : Choice) → opened (cs ++ ds) ≡ opened cs + opened ds
opened_join [] ds = omega arith
opened_join (c ∷ cs) ds = omega (arith, opened_join cs ds)

-- the other pans weigh at most as much as so many of them can
pub short_from :
    (lim : Bounds) (ws : List ℕ) (skip len : ℕ) (most short : List ℕ) → skip + len ≤ length ws → lim.limit ≤ 24 → Most (take skip ws ++ drop (skip + len) ws) most →
    ((c : ℕ) → c ≤ lim.limit → get_or short c 0 ≡ (lim.least - get_or most (lim.limit - c) 0) * 2 ^ 29) → Short lim ws skip len short
short_from lim ws skip len most short room few most-of made cs h =
    omega (arith, made (opened (part skip len cs)) (omega (arith, h.few, opens)), h.enough, weighs, beside)
  where
    us : Choice
    us = take skip cs

    ds : Choice
    ds = drop (skip + len) cs

    opens : opened cs ≡ opened us + (opened (part skip len cs) + opened ds)
    opens = omega (arith, opened_cut skip cs, opened_cut len (drop skip cs), ap opened (drop-drop len skip cs))

    weighs : weight_of ws cs ≡ weight_of (take skip ws) us + (weight_of (part skip len ws) (part skip len cs) + weight_of (drop (skip + len) ws) ds)
    weighs =
        let k : length (drop skip cs) ≡ length (drop skip ws) = omega (arith, length-drop skip cs, length-drop skip ws, h.whole) in
        let a : weight_of (drop len (drop skip ws)) (drop len (drop skip cs)) ≡ weight_of (drop (skip + len) ws) ds = rw (drop-drop len skip ws, drop-drop len skip cs) in
        omega (arith, weight_cut skip ws cs h.whole, weight_cut len (drop skip ws) (drop skip cs) k)

    first_long : length us ≡ length (take skip ws)
    first_long = omega (arith, length-take skip cs, length-take skip ws, h.whole)

    beside : weight_of (take skip ws) us + weight_of (drop (skip + len) ws) ds ≤ get_or most (lim.limit - opened (part skip len cs)) 0
    beside =
        let g = most-of (us ++ ds) (lim.limit - opened (part skip len cs))
        (omega (arith, length-append us ds, length-append (take skip ws) (drop (skip + len) ws), first_long, length-drop (skip + len) cs, length-drop (skip + len) ws, h.whole))
        (omega (arith, opened_join us ds, opens, h.few)) (omega arith) in
        omega (arith, g, weight_join (take skip ws) (drop (skip + len) ws) us ds first_long)

-- each part of a choice within the bounds passes the sieve
pub thinned_from :
    (lim : Bounds) (ws : List ℕ) (skip len : ℕ) (short old es : List ℕ) (n r : ℕ) → Short lim ws skip len short → Sieved short old es n r → Thinned lim ws skip len old es n r
thinned_from lim ws skip len short old es n r h g =
    record {
      fewer = g.fewer;
      rises = g.rises;
      keeps = keeps;
      only = g.only;
      rest = g.rest;
    }
  where
    keeps : (b : ℕ) (cs : Choice) → b + len ≤ 24 → Bounded lim ws cs → Holds old n (place b (part skip len ws) (part skip len cs)) → Holds es r (place b (part skip len ws) (part skip len cs))
    keeps b cs few bounded (q, l, e) =
        let k : length (drop skip cs) ≡ length (drop skip ws) = omega (arith, length-drop skip cs, length-drop skip ws, bounded.whole) in
        let long : length (part skip len cs) ≡ length (part skip len ws) = omega (arith, length-take len (drop skip cs), length-take len (drop skip ws)) in
        let small : length (part skip len ws) ≤ len = omega (arith, length-take len (drop skip ws)) in
        let p : 2 ^ (b + length (part skip len ws)) ≤ 2 ^ 24 = pow_mono {j = 24} (omega arith) in
        let d = in_place b 0 (part skip len ws) (part skip len cs) long (omega arith) (omega arith) in
        let z : place b (part skip len ws) (part skip len cs) + 0 ≡ get_or old q 0 = omega (arith, e) in
        let count : pans_in (get_or old q 0) ≡ opened (part skip len cs) = ap pans_in (sym z) ∙ d.1 in
        let kept : Kept short (get_or old q 0) = rw count (omega (arith, h cs bounded, d.0, z)) in
        rw e at (g.keeps q l kept)
