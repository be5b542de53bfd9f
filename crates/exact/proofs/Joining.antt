-- A choice of free pans joined with the old pans, and what is left of a choice without these.
use Rattle.std.proofs.Common.{◌≡◌, ℕ, zero, suc, ◌+◌, ◌*◌, ◌<◌, ◌≤◌, Bool, true, false, cond, not, ◌&&◌, ◌||◌, ltb, leb, List, [], ◌∷◌, length, get_or, refl, ap, add-mul, mul-le-mul_right, arith}
use Rattle.std.proofs.lemmas.Bool.{and_parts, and_from, leb-true}
use Rattle.choices.specs.Choice.{Choice, bit, weight_of, opened, none_empty, keeps_old}
use Rattle.choices.specs.Numbered.{number_of}
use Rattle.order.specs.Order.{first_more}
use Rattle.exact.specs.Pans.{only_old, if_free, free_of}
use Rattle.exact.specs.Few.{Makes}

-- ---- the weights of free pans

pub length_free : (old : ℕ) (ws as' : List ℕ) → length as' ≡ length ws → length (free_of old ws as') ≡ length ws
length_free old [] as' e = refl
length_free old (w ∷ ws) [] e = absurd (omega arith)
length_free old (w ∷ ws) (a ∷ as') e = ap suc (length_free old ws as' (omega arith))

pub free_at :
    (old : ℕ) (ws as' : List ℕ) (i : ℕ) → length as' ≡ length ws → i < length ws →
    get_or (free_of old ws as') i 0 ≡ if_free (ltb (get_or as' i 0) old) (get_or ws i 0)
free_at old [] as' i e less = absurd (omega arith)
free_at old (w ∷ ws) [] i e less = absurd (omega arith)
free_at old (w ∷ ws) (a ∷ as') zero e less = refl
free_at old (w ∷ ws) (a ∷ as') (suc i) e less = free_at old ws as' i (omega arith) (omega arith)

if_free_some : (b : Bool) (w : ℕ) → 1 ≤ if_free b w
if_free_some false w = omega arith
if_free_some true w = at (leb 1 w) refl
  where
    at : (f : Bool) → leb 1 w ≡ f → 1 ≤ cond f w 26000000
    at true e = leb-true 1 w e
    at false e = omega arith

if_free_most : (b : Bool) (w : ℕ) → w ≤ 1000000 → if_free b w ≤ 26000000
if_free_most b w h = at (b && leb 1 w)
  where
    at : (d : Bool) → cond d w 26000000 ≤ 26000000
    at true = omega arith
    at false = omega arith

pub free_some : (old : ℕ) (ws as' : List ℕ) → length as' ≡ length ws → (i : ℕ) → i < length (free_of old ws as') → 1 ≤ get_or (free_of old ws as') i 0
free_some old ws as' e i less =
    rw (free_at old ws as' i e (omega (arith, length_free old ws as' e))) (if_free_some (ltb (get_or as' i 0) old) (get_or ws i 0))

pub free_most :
    (old : ℕ) (ws as' : List ℕ) → length as' ≡ length ws → ((i : ℕ) → get_or ws i 0 ≤ 1000000) →
    (i : ℕ) → i < length (free_of old ws as') → get_or (free_of old ws as') i 0 ≤ 26000000
free_most old ws as' e light i less =
    rw (free_at old ws as' i e (omega (arith, length_free old ws as' e))) (if_free_most (ltb (get_or as' i 0) old) (get_or ws i 0) (light i))

-- ---- a choice joined with the old pans

abbrev pub with_old : ℕ → List ℕ → Choice → Choice
with_old old [] cs = []
with_old old (a ∷ as') [] = []
with_old old (a ∷ as') (c ∷ cs) = (c || not (ltb a old)) ∷ with_old old as' cs

pub record Joined (old : ℕ) (ws as' : List ℕ) (cs : Choice) : Type 0 where
  pub whole : length (with_old old as' cs) ≡ length ws
  pub weighs : weight_of ws (with_old old as' cs) ≡ weight_of ws (only_old old as') + weight_of (free_of old ws as') cs
  pub counts : opened (with_old old as' cs) ≡ opened (only_old old as') + opened cs
  pub numbers : number_of (with_old old as' cs) ≡ number_of (only_old old as') + number_of cs
  pub fills : none_empty ws (only_old old as') ≡ true → none_empty ws (with_old old as' cs) ≡ true
  pub old_opened : keeps_old old as' (with_old old as' cs) ≡ true

-- one pan: whether it is opened, young and filled
joined_pan :
    (c b f : Bool) (w : ℕ) → cond c (cond (b && f) w 26000000) 0 < 26000000 →
    (cond (c || not b) w 0 ≡ cond (not b) w 0 + cond c (cond (b && f) w 26000000) 0) × (bit (c || not b) ≡ bit (not b) + bit c)
    × ((not (not b) || f) ≡ true → (not (c || not b) || f) ≡ true) × (((c || not b) || b) ≡ true)
joined_pan true true true w less = (omega arith, refl, λ h. refl, refl)
joined_pan true true false w less = absurd (omega arith)
joined_pan true false f w less = absurd (omega arith)
joined_pan false true f w less = (omega arith, refl, λ h. refl, refl)
joined_pan false false f w less = (omega arith, refl, λ h. h, refl)

pub join :
    (old : ℕ) (ws as' : List ℕ) (cs : Choice) → length as' ≡ length ws → length cs ≡ length ws → weight_of (free_of old ws as') cs < 26000000 → Joined old ws as' cs
join old [] [] [] e f less = record { whole = refl; weighs = refl; counts = refl; numbers = refl; fills = λ h. refl; old_opened = refl }
join old [] [] (c ∷ cs) e f less = absurd (omega arith)
join old [] (a ∷ as') cs e f less = absurd (omega arith)
join old (w ∷ ws) [] cs e f less = absurd (omega arith)
join old (w ∷ ws) (a ∷ as') [] e f less = absurd (omega arith)
join old (w ∷ ws) (a ∷ as') (c ∷ cs) e f less =
    let p = joined_pan c (ltb a old) (leb 1 w) w (omega arith) in
    let h = join old ws as' cs (omega arith) (omega arith) (omega arith) in
    record {
      whole = ap suc h.whole;
      weighs = omega (arith, p.0, h.weighs);
      counts = omega (arith, p.1, h.counts);
      numbers = omega (arith, p.1, h.numbers);
      fills = λ filled. let q = and_parts (not (not (ltb a old)) || leb 1 w) (none_empty ws (only_old old as')) filled in and_from _ _ (p.2 q.0) (h.fills q.1);
      old_opened = and_from _ _ p.3 h.old_opened;
    }

-- ---- a choice without the old pans

abbrev pub without_old : ℕ → List ℕ → Choice → Choice
without_old old [] ds = []
without_old old (a ∷ as') [] = []
without_old old (a ∷ as') (d ∷ ds) = (d && ltb a old) ∷ without_old old as' ds

pub record Split (old : ℕ) (ws as' : List ℕ) (ds : Choice) : Type 0 where
  pub whole : length (without_old old as' ds) ≡ length ws
  pub weighs : weight_of ws ds ≡ weight_of ws (only_old old as') + weight_of (free_of old ws as') (without_old old as' ds)
  pub counts : opened ds ≡ opened (only_old old as') + opened (without_old old as' ds)
  pub fills : none_empty ws (only_old old as') ≡ true

split_pan :
    (d b f : Bool) (w : ℕ) → (not d || f) ≡ true → (d || b) ≡ true →
    (cond d w 0 ≡ cond (not b) w 0 + cond (d && b) (cond (b && f) w 26000000) 0) × (bit d ≡ bit (not b) + bit (d && b)) × ((not (not b) || f) ≡ true)
split_pan true true true w g h = (omega arith, refl, refl)
split_pan true true false w g h = absurd (false_true g)
  where
    false_true : false ≡ true → ⊥
    false_true e = cc
split_pan true false f w g h = (omega arith, refl, g)
split_pan false true f w g h = (omega arith, refl, refl)
split_pan false false f w g h = absurd (false_true h)
  where
    false_true : false ≡ true → ⊥
    false_true e = cc

pub split :
    (old : ℕ) (ws as' : List ℕ) (ds : Choice) → length as' ≡ length ws → length ds ≡ length ws → none_empty ws ds ≡ true → keeps_old old as' ds ≡ true →
    Split old ws as' ds
split old [] [] [] e f g h = record { whole = refl; weighs = refl; counts = refl; fills = refl }
split old [] [] (d ∷ ds) e f g h = absurd (omega arith)
split old [] (a ∷ as') ds e f g h = absurd (omega arith)
split old (w ∷ ws) [] ds e f g h = absurd (omega arith)
split old (w ∷ ws) (a ∷ as') [] e f g h = absurd (omega arith)
split old (w ∷ ws) (a ∷ as') (d ∷ ds) e f g h =
    let q = and_parts (not d || leb 1 w) (none_empty ws ds) g in
    let r = and_parts (d || ltb a old) (keeps_old old as' ds) h in
    let p = split_pan d (ltb a old) (leb 1 w) w q.0 r.0 in
    let s = split old ws as' ds (omega arith) (omega arith) q.1 r.1 in
    record { whole = ap suc s.whole; weighs = omega (arith, p.0, s.weighs); counts = omega (arith, p.1, s.counts); fills = and_from _ _ p.2 s.fills }

-- the first pan that differs is free
more_pan :
    (d c b f : Bool) (w : ℕ) (ds es ds' es' : Choice) → (d || b) ≡ true → cond c (cond (b && f) w 26000000) 0 < 26000000 → first_more ds es ≡ first_more ds' es' →
    first_more (d ∷ ds) ((c || not b) ∷ es) ≡ first_more ((d && b) ∷ ds') (c ∷ es')
more_pan true true true f w ds es ds' es' g less e = e
more_pan true false true f w ds es ds' es' g less e = refl
more_pan false true true f w ds es ds' es' g less e = refl
more_pan false false true f w ds es ds' es' g less e = e
more_pan d true false f w ds es ds' es' g less e = absurd (omega arith)
more_pan true false false f w ds es ds' es' g less e = e
more_pan false false false f w ds es ds' es' g less e = absurd (false_true g)
  where
    false_true : false ≡ true → ⊥
    false_true e = cc

pub more_free :
    (old : ℕ) (ws as' : List ℕ) (ds cs : Choice) → length as' ≡ length ws → length ds ≡ length ws → length cs ≡ length ws → keeps_old old as' ds ≡ true →
    weight_of (free_of old ws as') cs < 26000000 → first_more ds (with_old old as' cs) ≡ first_more (without_old old as' ds) cs
more_free old [] [] [] [] e f g h less = refl
more_free old [] [] [] (c ∷ cs) e f g h less = absurd (omega arith)
more_free old [] [] (d ∷ ds) cs e f g h less = absurd (omega arith)
more_free old [] (a ∷ as') ds cs e f g h less = absurd (omega arith)
more_free old (w ∷ ws) [] ds cs e f g h less = absurd (omega arith)
more_free old (w ∷ ws) (a ∷ as') [] cs e f g h less = absurd (omega arith)
more_free old (w ∷ ws) (a ∷ as') (d ∷ ds) [] e f g h less = absurd (omega arith)
more_free old (w ∷ ws) (a ∷ as') (d ∷ ds) (c ∷ cs) e f g h less =
    let r = and_parts (d || ltb a old) (keeps_old old as' ds) h in
    more_pan d c (ltb a old) (leb 1 w) w ds (with_old old as' cs) (without_old old as' ds) cs r.0 (omega arith)
    (more_free old ws as' ds cs (omega arith) (omega arith) (omega arith) r.1 (omega arith))

-- ---- four of the heaviest

heavy_le :
    (ws : List ℕ) (cs : Choice) (most h : ℕ) → weight_of ws cs ≤ most → ((i : ℕ) → i < length ws → get_or ws i 0 ≤ most → get_or ws i 0 ≤ h) →
    weight_of ws cs ≤ opened cs * h
heavy_le [] cs most h low each = omega arith
heavy_le (w ∷ ws) [] most h low each = omega arith
heavy_le (w ∷ ws) (true ∷ cs) most h low each =
    omega
    (arith, add-mul 1 (opened cs) h, each 0 (omega arith) (omega arith), heavy_le ws cs most h (omega arith) (λ i less. each (suc i) (omega arith)))
heavy_le (w ∷ ws) (false ∷ cs) most h low each =
    let e : 0 + opened cs ≡ opened cs = omega arith in
    rw e (omega (arith, heavy_le ws cs most h (omega arith) (λ i less. each (suc i) (omega arith))))

-- four pans are no heavier than four times the heaviest of those that are not too heavy
pub few_le :
    {k x h : ℕ} {ws : List ℕ} {cs : Choice} → Makes k ws x cs → k ≤ 4 → ((i : ℕ) → i < length ws → get_or ws i 0 ≤ x → get_or ws i 0 ≤ h) → x ≤ 4 * h
few_le {k} {x} {h} {ws} {cs} m few each =
    let le : weight_of ws cs ≤ opened cs * h = heavy_le ws cs x h (omega (arith, m.weighs)) each in
    let four : opened cs * h ≤ 4 * h = mul-le-mul_right h (omega (arith, m.counts)) in
    omega (arith, m.weighs)
