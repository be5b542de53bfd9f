-- The first pan that is opened, and the first choice of the pans behind it: together they are the first choice of all.
use Rattle.std.proofs.Common.{◌≡◌, ℕ, zero, suc, ◌+◌, ◌-◌, ◌*◌, ◌^◌, ◌<◌, ◌≤◌, true, false, List, [], ◌∷◌, length, get_or, take, take_all, drop, add-one, None, ◌⊎◌, inl, inr, refl, ap, sym, length-drop, mul_assoc, mul_comm, arith}
use native.Mathlib.Nat.{pow-succ'}
use Rattle.std.proofs.lemmas.Nat.{pow_below, shl_below}
use Rattle.std.proofs.lemmas.List.{drop-drop}
use Rattle.std.proofs.lemmas.Bool.{cases_lt}
use Rattle.choices.specs.Choice.{Choice, opened}
use Rattle.choices.specs.Numbered.{number_of}
use Rattle.choices.proofs.Choices.{weighs_none}
use Rattle.choices.proofs.Numbers.{number_lt}
use Rattle.order.specs.Order.{first_more}
use Rattle.exact.specs.Few.{Makes, Never, First, Picked, Heads, LeadsAt, Leads, Tells}

-- ---- a choice with one pan more in front

pub makes_open : {k w x : ℕ} {ws : List ℕ} {cs : Choice} → w ≤ x → Makes k ws (x - w) cs → Makes (suc k) (w ∷ ws) x (true ∷ cs)
makes_open low m = record { whole = ap suc m.whole; counts = omega (arith, m.counts); weighs = omega (arith, m.weighs) }

pub makes_shut : {k w x : ℕ} {ws : List ℕ} {cs : Choice} → Makes k ws x cs → Makes k (w ∷ ws) x (false ∷ cs)
makes_shut m = record { whole = ap suc m.whole; counts = omega (arith, m.counts); weighs = omega (arith, m.weighs) }

pub data Taken (k w : ℕ) (ws : List ℕ) (x : ℕ) : Choice → Type 0 where
  shut : {ds : Choice} → Makes (suc k) ws x ds → Taken k w ws x (false ∷ ds)
  free : {ds : Choice} → w ≤ x → Makes k ws (x - w) ds → Taken k w ws x (true ∷ ds)

pub taken : {k w x : ℕ} {ws : List ℕ} (cs : Choice) → Makes (suc k) (w ∷ ws) x cs → Taken k w ws x cs
taken [] m = absurd (omega (arith, m.whole))
taken (false ∷ cs) m = shut (record { whole = omega (arith, m.whole); counts = omega (arith, m.counts); weighs = omega (arith, m.weighs) })
taken (true ∷ cs) m = free (omega (arith, m.weighs)) (record { whole = omega (arith, m.whole); counts = omega (arith, m.counts); weighs = omega (arith, m.weighs) })

-- ---- which pans are opened first

heads_behind : {k w x i : ℕ} {ws : List ℕ} → Heads k ws x i → Heads k (w ∷ ws) x (suc i)
heads_behind h = record { within = omega (arith, h.within); light = h.light; rest = h.rest; makes = h.makes }

heads_before : {k w x i : ℕ} {ws : List ℕ} → Heads k (w ∷ ws) x (suc i) → Heads k ws x i
heads_before h = record { within = omega (arith, h.within); light = h.light; rest = h.rest; makes = h.makes }

heads_here : {k w x : ℕ} {ws : List ℕ} {cs : Choice} → w ≤ x → Makes k ws (x - w) cs → Heads k (w ∷ ws) x 0
heads_here {cs = cs} low m = record { within = omega arith; light = low; rest = cs; makes = m }

pub headed : {k x : ℕ} (ws : List ℕ) (cs : Choice) → Makes (suc k) ws x cs → (i : ℕ) × Heads k ws x i
headed [] [] m = absurd (omega (arith, m.counts))
headed [] (c ∷ cs) m = absurd (omega (arith, m.whole))
headed {k} {x} (w ∷ ws) cs m = at (taken cs m) (λ ds. headed ws ds)
  where
    at : {cs : Choice} → Taken k w ws x cs → ((ds : Choice) → Makes (suc k) ws x ds → (i : ℕ) × Heads k ws x i) → (i : ℕ) × Heads k (w ∷ ws) x i
    at (shut m) further = let h = further _ m in (suc h.0, heads_behind h.1)
    at (free low m) further = (0, heads_here low m)

pub makes_headed : {k x : ℕ} (ws : List ℕ) (i : ℕ) → Heads k ws x i → (cs : Choice) × Makes (suc k) ws x cs
makes_headed [] i h = absurd (omega (arith, h.within))
makes_headed (w ∷ ws) zero h = (true ∷ h.rest, makes_open h.light h.makes)
makes_headed (w ∷ ws) (suc i) h = let m = makes_headed ws i (heads_before h) in (false ∷ m.0, makes_shut m.1)

pub heads_drop : {k x : ℕ} (i j : ℕ) (ws : List ℕ) → Heads k (drop i ws) x j → Heads k ws x (i + j)
heads_drop zero j ws h = let e : zero + j ≡ j = omega arith in rw e h
heads_drop (suc i) j [] h = absurd (omega (arith, h.within))
heads_drop (suc i) j (w ∷ ws) h = let e : suc i + j ≡ suc (i + j) = omega arith in rw e (heads_behind (heads_drop i j ws h))

pub heads_undrop : {k x : ℕ} (i j : ℕ) (ws : List ℕ) → Heads k ws x (i + j) → Heads k (drop i ws) x j
heads_undrop zero j ws h = let e : zero + j ≡ j = omega arith in rw e at h
heads_undrop (suc i) j [] h = absurd (omega (arith, h.within))
heads_undrop (suc i) j (w ∷ ws) h = let e : suc i + j ≡ suc (i + j) = omega arith in heads_undrop i j ws (heads_before (rw e at h))

-- ---- the first choice

-- pan i is opened, and none before it
abbrev pub leading : ℕ → Choice → Choice
leading zero cs = true ∷ cs
leading (suc i) cs = false ∷ leading i cs

number_leading : (i : ℕ) (cs : Choice) → number_of (leading i cs) ≡ (2 * number_of cs + 1) * 2 ^ i
number_leading zero cs = omega arith
number_leading (suc i) cs =
    rw (pow-succ' 2 i) (omega (arith, number_leading i cs, mul_assoc (2 * number_of cs + 1) 2 (2 ^ i), mul_comm (2 * number_of cs + 1) 2, mul_assoc 2 (2 * number_of cs + 1) (2 ^ i)))

leads_behind : {k w x i : ℕ} {ws : List ℕ} → LeadsAt k (w ∷ ws) x (suc i) → LeadsAt k ws x i
leads_behind l = record { heads = heads_before l.heads; earlier = λ j less h. l.earlier (suc j) (omega arith) (heads_behind h) }

first_leading :
    {k x : ℕ} {cs : Choice} (i : ℕ) (ws : List ℕ) → LeadsAt k ws x i → First k (drop (suc i) ws) (x - get_or ws i 0) cs →
    First (suc k) ws x (leading i cs)
first_leading i [] l f = absurd (omega (arith, l.heads.within))
first_leading {k} {x} {cs} zero (w ∷ ws) l f =
    record { makes = makes_open l.heads.light f.makes; first = λ ds m. first (taken ds m) }
  where
    first : {ds : Choice} → Taken k w ws x ds → first_more ds (true ∷ cs) ≡ false
    first (shut m) = refl
    first (free low m) = f.first _ m
first_leading {k} {x} {cs} (suc i) (w ∷ ws) l f = at (first_leading i ws (leads_behind l) f)
  where
    at : First (suc k) ws x (leading i cs) → First (suc k) (w ∷ ws) x (false ∷ leading i cs)
    at behind = record { makes = makes_shut behind.makes; first = λ ds m. first (taken ds m) }
      where
        first : {ds : Choice} → Taken k w ws x ds → first_more ds (false ∷ leading i cs) ≡ false
        first (shut m) = behind.first _ m
        first (free low m) = absurd (l.earlier 0 (omega arith) (heads_here low m))

-- the number of the first choice, from that of the pans behind
pub picks_more :
    {k x i n : ℕ} {ws : List ℕ} → LeadsAt k ws x i → Picked k (drop (suc i) ws) (x - get_or ws i 0) n → Picked (suc k) ws x ((2 * n + 1) * 2 ^ i)
picks_more {i = i} {ws = ws} l p =
    record { choice = leading i p.choice; first = first_leading i ws l p.first; is = rw p.is (sym (number_leading i p.choice)) }

pub picks_none : {k x : ℕ} {ws : List ℕ} → Leads k ws x None → Never (suc k) ws x
picks_none {ws = ws} l cs m = let h = headed ws cs m in l h.0 h.1

pub picks_some : {k x i : ℕ} {ws : List ℕ} → LeadsAt k ws x i → Never k (drop (suc i) ws) (x - get_or ws i 0) → ⊥
picks_some l never = never l.heads.rest l.heads.makes

-- it fits in 32 bits
pub picks_fit :
    {k x i n : ℕ} {ws : List ℕ} → LeadsAt k ws x i → length ws ≤ 24 → Picked k (drop (suc i) ws) (x - get_or ws i 0) n →
    (i < 24) × ((n < 2 ^ 24) × ((2 * n + 1) * 2 ^ i < 2 ^ 32))
picks_fit {i = i} {n} {ws} l small p =
    let long : length p.choice ≡ length ws - suc i = omega (arith, p.first.makes.whole, length-drop (suc i) ws) in
    let below : number_of p.choice < 2 ^ (length ws - suc i) = rw long at (number_lt p.choice) in
    let j = length ws - suc i in
    let low : n < 2 ^ j = omega (arith, p.is) in
    let odd : 2 * n + 1 < 2 ^ suc j = omega (arith, pow-succ' 2 j) in
    let high : (2 * n + 1) * 2 ^ i < 2 ^ (suc j + i) = shl_below (2 * n + 1) (suc j) i odd in
    (omega (arith, l.heads.within), (omega (arith, pow_below j 24 (omega (arith, l.heads.within))), omega (arith, pow_below (suc j + i) 32 (omega (arith, l.heads.within)))))

-- pan i is the first pan, with the choice that was found of the pans behind it
pub leads_here :
    {k x i n : ℕ} {ws : List ℕ} → i < length ws → get_or ws i 0 ≤ x → ((j : ℕ) → j < i → Heads k ws x j → ⊥) →
    Picked k (drop (suc i) ws) (x - get_or ws i 0) n → LeadsAt k ws x i
leads_here within light earlier p =
    record { heads = record { within = within; light = light; rest = p.choice; makes = p.first.makes }; earlier = earlier }

pub leads_on :
    {k x i : ℕ} {ws : List ℕ} → ((j : ℕ) → j < i → Heads k ws x j → ⊥) → (Heads k ws x i → ⊥) → (j : ℕ) → j < i + 1 → Heads k ws x j → ⊥
leads_on {k} {x} {i} {ws} before here j less = at (cases_lt j i)
  where
    at : (j < i) ⊎ (i ≤ j) → Heads k ws x j → ⊥
    at (inl lower) h = before j lower h
    at (inr same) h = let e : j ≡ i = omega arith in here (rw e at h)

-- ---- no pan, and one pan

shut_all : List ℕ → Choice
shut_all [] = []
shut_all (w ∷ ws) = false ∷ shut_all ws

makes_none : (ws : List ℕ) → Makes 0 ws 0 (shut_all ws)
unfolding shut_all
makes_none [] = record { whole = refl; counts = refl; weighs = refl }
makes_none (w ∷ ws) = makes_shut (makes_none ws)

first_none : (ws : List ℕ) (ds : Choice) → opened ds ≡ 0 → first_more ds (shut_all ws) ≡ false
unfolding shut_all
first_none ws [] none = refl
first_none ws (true ∷ ds) none = absurd (omega arith)
first_none [] (false ∷ ds) none = refl
first_none (w ∷ ws) (false ∷ ds) none = first_none ws ds (omega arith)

number_none : (ws : List ℕ) → number_of (shut_all ws) ≡ 0
unfolding shut_all
number_none [] = refl
number_none (w ∷ ws) = omega (arith, number_none ws)

pub picked_none : {ws : List ℕ} → Picked 0 ws 0 0
picked_none {ws} = record { choice = shut_all ws; first = record { makes = makes_none ws; first = λ ds m. first_none ws ds m.counts }; is = sym (number_none ws) }

pub never_none : {ws : List ℕ} {x : ℕ} → 0 < x → Never 0 ws x
never_none {ws} some cs m = omega (arith, weighs_none ws cs m.counts, m.weighs)

pub heads_one : {ws : List ℕ} {x : ℕ} (i : ℕ) → Heads 0 ws x i → get_or ws i 0 ≡ x
heads_one {ws} i h = omega (arith, h.light, weighs_none (drop (suc i) ws) h.rest h.makes.counts, h.makes.weighs)

pub one_heads : {ws : List ℕ} {x : ℕ} (i : ℕ) → i < length ws → get_or ws i 0 ≡ x → Heads 0 ws x i
one_heads {ws} {x} i within is =
    let e : x - get_or ws i 0 ≡ 0 = omega arith in
    record { within = within; light = omega arith; rest = shut_all (drop (suc i) ws); makes = rw e (makes_none (drop (suc i) ws)) }

-- ---- the bytes of a table

-- a table of all pans is also one of the last pans alone
pub tells_drop : {k : ℕ} {ws bytes : List ℕ} (j : ℕ) → j ≤ length ws → Tells k ws bytes → Tells k (drop j ws) bytes
tells_drop {k} {ws} {bytes} j low t =
    record {
      made = λ i x within less few. rw (drop-drop i j ws) (t.made (j + i) x (omega (arith, length-drop j ws)) less (omega (arith, length-drop j ws)));
      least = λ i x cs within less m. omega (arith, length-drop j ws, t.least (j + i) x cs (omega (arith, length-drop j ws)) less (rw (drop-drop i j ws) at m));
      nothing = omega (arith, length-drop j ws, t.nothing);
    }

module _ {k x : ℕ} {ws bytes : List ℕ} (t : Tells k ws bytes) (room : x + 1 < length bytes) (i : ℕ) (within : i < length ws) where
  pub tells_heads : get_or bytes (x - get_or ws i 0) 0 < length ws - i → Heads k ws x i
  tells_heads low = at (cases_lt x (get_or ws i 0))
    where
      at : (x < get_or ws i 0) ⊎ (get_or ws i 0 ≤ x) → Heads k ws x i
      at (inl heavy) = let e : x - get_or ws i 0 ≡ 0 = omega arith in let none = rw e at low in absurd (omega (arith, none, t.nothing))
      at (inr light) =
          let m = t.made (suc i) (x - get_or ws i 0) (omega arith) (omega arith) (omega arith) in
          record { within = within; light = light; rest = m.0; makes = m.1 }

  pub heads_tells : Heads k ws x i → get_or bytes (x - get_or ws i 0) 0 < length ws - i
  heads_tells h = omega (arith, t.least (suc i) (x - get_or ws i 0) h.rest (omega arith) (omega arith) h.makes)

-- ---- the pans behind a pan, as the code names them
pub behind_is : (ws : List ℕ) (i : ℕ) → take (length ws - (i + 1)) (drop (i + 1) ws) ≡ drop (suc i) ws
behind_is ws i = rw (add-one i) (take_all (length ws - suc i) (drop (suc i) ws) (omega (arith, length-drop (suc i) ws)))
