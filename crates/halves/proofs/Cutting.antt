-- A choice of all pans is a choice of each part of them: its place and its ways come together.
use Rattle.std.proofs.Common.{◌≡◌, ℕ, zero, suc, ◌+◌, ◌-◌, ◌^◌, ◌≤◌, true, false, cond, List, [], ◌∷◌, length, take, drop, sym, refl, ap, ◌∙◌, arith, pow_mono}
use Rattle.std.proofs.lemmas.Bool.{and_parts, and_from, both_ways}
use Rattle.std.proofs.lemmas.List.{length-take, length-drop, drop-drop, take_all}
use Rattle.choices.specs.Choice.{Choice, opened}
use Rattle.halves_places.specs.Place.{by_ways, place, pans_in}
use Rattle.halves_places.specs.declared.way.Way.{Way}
use Rattle.halves_places.proofs.Places.{in_place}
use Rattle.halves_growth.specs.Entries.{Holds}
use Rattle.halves_growth.specs.Part.{Part}
use Rattle.halves_sieves.specs.Sieve.{part, Thinned}
use Rattle.halves_sieves.specs.declared.bounds.Bounds.{Bounds}
use Rattle.halves.specs.Half.{Half, Wanted}
use Rattle.halves.proofs.RoomParts.{part_whole}

pub by_ways_cut : (n : ℕ) (vs : List Way) (cs : Choice) → by_ways vs cs ≡ true → (by_ways (take n vs) (take n cs) ≡ true) × (by_ways (drop n vs) (drop n cs) ≡ true)
by_ways_cut zero vs cs h = (refl, h)
by_ways_cut (suc n) [] [] h = (refl, refl)
by_ways_cut (suc n) [] (c ∷ cs) h = absurd (both_ways false refl h)
by_ways_cut (suc n) (v ∷ vs) [] h = absurd (both_ways false refl h)
by_ways_cut (suc n) (v ∷ vs) (c ∷ cs) h =
    let k = and_parts (cond c v.opens v.young) (by_ways vs cs) h in
    let g = by_ways_cut n vs cs k.1 in
    (and_from _ _ k.0 g.0, g.1)

pub by_ways_uncut : (n : ℕ) (vs : List Way) (cs : Choice) → by_ways (take n vs) (take n cs) ≡ true → by_ways (drop n vs) (drop n cs) ≡ true → by_ways vs cs ≡ true
by_ways_uncut zero vs cs g h = h
by_ways_uncut (suc n) [] [] g h = refl
by_ways_uncut (suc n) [] (c ∷ cs) g h = absurd (both_ways false refl g)
by_ways_uncut (suc n) (v ∷ vs) [] g h = absurd (both_ways false refl g)
by_ways_uncut (suc n) (v ∷ vs) (c ∷ cs) g h =
    let k = and_parts (cond c v.opens v.young) (by_ways (take n vs) (take n cs)) g in
    and_from _ _ k.0 (by_ways_uncut n vs cs k.1 h)

pub place_cut : (b n : ℕ) (ws : List ℕ) (cs : Choice) → length cs ≡ length ws → place b ws cs ≡ place (b + length (drop n cs)) (take n ws) (take n cs) + place b (drop n ws) (drop n cs)
place_cut b zero ws cs e = omega arith
place_cut b (suc n) [] [] e = omega arith
place_cut b (suc n) [] (c ∷ cs) e = absurd (omega arith)
place_cut b (suc n) (w ∷ ws) [] e = absurd (omega arith)
place_cut b (suc n) (w ∷ ws) (true ∷ cs) e = omega (arith, place_cut b n ws cs (omega arith))
place_cut b (suc n) (w ∷ ws) (false ∷ cs) e =
    let k : 2 ^ (b + length cs) ≡ 2 ^ (b + length (drop n cs) + length (take n cs)) = ap (λ (m : ℕ). 2 ^ m) (omega (arith, length-drop n cs, length-take n cs)) in
    omega (arith, k, place_cut b n ws cs (omega arith))

-- how many pans a part's place says
pub pans_part : (b : ℕ) (ws : List ℕ) (cs : Choice) → length cs ≡ length ws → b + length ws ≤ 24 → pans_in (place b ws cs) ≡ opened cs
pans_part b ws cs e few =
    let p : 2 ^ (b + length ws) ≤ 2 ^ 24 = pow_mono {j = 24} (omega arith) in
    let z : place b ws cs + 0 ≡ place b ws cs = omega arith in
    rw z at (in_place b 0 ws cs e (omega arith) (omega arith)).1

-- a part from `skip` on, of n pans in all
module _ (ws : List ℕ) (cs : Choice) (whole : length cs ≡ length ws) (skip len : ℕ) where
  pub part_long : length (part skip len cs) ≡ length (part skip len ws)
  part_long = omega (arith, length-take len (drop skip cs), length-take len (drop skip ws), length-drop skip cs, length-drop skip ws)

  -- what is before it, the part, and what is behind it
  pub place_part :
      (place 0 ws cs ≡ place (length ws - skip) (take skip ws) (take skip cs) + place 0 (drop skip ws) (drop skip cs))
      × (place 0 (drop skip ws) (drop skip cs) ≡ place (length ws - (skip + len)) (part skip len ws) (part skip len cs) + place 0 (drop (skip + len) ws) (drop (skip + len) cs))
  place_part =
      let k : length (drop skip cs) ≡ length (drop skip ws) = omega (arith, length-drop skip cs, length-drop skip ws) in
      let a : 0 + length (drop skip cs) ≡ length ws - skip = omega (arith, length-drop skip cs) in
      let b : 0 + length (drop len (drop skip cs)) ≡ length ws - (skip + len) = omega (arith, length-drop len (drop skip cs), length-drop skip cs) in (
        rw a at (place_cut 0 skip ws cs whole),
        rw (b, drop-drop len skip ws, drop-drop len skip cs) at (place_cut 0 len (drop skip ws) (drop skip cs) k),
      )

-- a part that was grown and then thinned
pub half_from :
    (lim : Bounds) (ws : List ℕ) (vs : List Way) (skip len : ℕ) (old es : List ℕ) (n r : ℕ) → skip + len ≤ length ws → length ws ≤ 24 → length vs ≡ length ws →
    Part (length ws - (skip + len)) 0 lim.to (part skip len ws) (part skip len vs) old n → Thinned lim ws skip len old es n r → Half lim ws vs skip len es r
half_from lim ws vs skip len old es n r within few paired h g =
    record {
      few = omega (arith, g.fewer, rw long at h.few);
      rises = g.rises;
      every = every;
      only = λ q l. let x = g.only q l in let y = h.only x.0 x.1 in (y.0, y.1, omega (arith, y.2, x.2));
    }
  where
    long : length (part skip len ws) ≡ len
    long = omega (arith, length-take len (drop skip ws), length-drop skip ws)

    every : (cs : Choice) → Wanted lim ws vs cs → Holds es r (place (length ws - (skip + len)) (part skip len ws) (part skip len cs))
    every cs w =
        let p = place_part ws cs w.bounded.whole skip len in
        let u = (by_ways_cut len (drop skip vs) (drop skip cs) (by_ways_cut skip vs cs w.ways).1).0 in
        let x = h.every (part skip len cs) u (omega (arith, p.0, p.1, w.below)) in
        g.keeps (length ws - (skip + len)) cs (omega arith) w.bounded (x.0, x.1, omega (arith, x.2))

-- a part as its pans are known to be, in a room that holds more
module _ (ws : List ℕ) (vs : List Way) (skip len : ℕ) (us : List ℕ) (ups : List Way) (is : us ≡ part skip len ws) (by : ups ≡ part skip len vs) (within : skip + len ≤ length ws) where
  pub long_part : length us ≡ len
  long_part = ap length is ∙ omega (arith, length-take len (drop skip ws), length-drop skip ws)

  pub few_part : (b r to : ℕ) (es : List ℕ) (n : ℕ) → Part b r to us ups es n → n ≤ 2 ^ len
  few_part b r to es n h = rw long_part at h.few

  pub part_made : (b to : ℕ) (es : List ℕ) (n : ℕ) → b + (skip + len) ≡ length ws → n ≤ length es → Part b 0 to us ups es n → Part (length ws - (skip + len)) 0 to (part skip len ws) (part skip len vs) (take n es) (length (take n es))
  part_made b to es n e room h =
      let d : b ≡ length ws - (skip + len) = omega arith in
      rw (is, by, d) at (part_whole b 0 to us ups es n room h)

-- the pans from t + h on are the back half
pub back_all : {X : Type 0} → (t h : ℕ) (xs : List X) → length xs ≡ t + (h + h) → part (t + h) h xs ≡ drop (t + h) xs
back_all t h xs e = take_all h (drop (t + h) xs) (omega (arith, length-drop (t + h) xs))

-- and what is left of them behind the others
pub last_part : {X : Type 0} → (t h : ℕ) (xs ys zs : List X) → length xs ≡ t + (h + h) → ys ≡ drop t xs → zs ≡ drop h ys → zs ≡ part (t + h) h xs
last_part t h xs ys zs e a b = b ∙ (ap (drop h) a ∙ (drop-drop h t xs ∙ sym (back_all t h xs e)))
