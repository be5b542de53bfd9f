-- What the kinds weigh: a kind by its own weights, and all kinds together.
use Rattle.std.proofs.Common.{◌≡◌, ℕ, zero, suc, ◌+◌, ◌<◌, ◌≤◌, Bool, true, false, cond, eqb, ltb, List, [], ◌∷◌, length, get_or, refl, ap, arith}
use Rattle.std.proofs.lemmas.Bool.Decides.{nat_tests}
use Rattle.std.proofs.lemmas.Bool.{lt-ltb}
use Rattle.choices.specs.Choice.{Choice, weight_of}
use Rattle.kinds.specs.Kinds.{weight_of_kind, of_kind}

-- a kind weighs what its own weights do
pub weight_of-of_kind : (k : ℕ) (ks ws : List ℕ) (cs : Choice) → weight_of_kind k ks ws cs ≡ weight_of (of_kind k ks ws) cs
weight_of-of_kind k [] ws cs = refl
weight_of-of_kind k (q ∷ ks) [] cs = refl
weight_of-of_kind k (q ∷ ks) (w ∷ ws) [] = refl
weight_of-of_kind k (q ∷ ks) (w ∷ ws) (true ∷ cs) = ap (λ n. cond (eqb q k) w 0 + n) (weight_of-of_kind k ks ws cs)
weight_of-of_kind k (q ∷ ks) (w ∷ ws) (false ∷ cs) = ap (λ n. 0 + n) (weight_of-of_kind k ks ws cs)

pub length-of_kind : (k : ℕ) (ks ws : List ℕ) → length ks ≡ length ws → length (of_kind k ks ws) ≡ length ws
length-of_kind k [] [] e = refl
length-of_kind k [] (w ∷ ws) e = absurd (omega arith)
length-of_kind k (q ∷ ks) [] e = absurd (omega arith)
length-of_kind k (q ∷ ks) (w ∷ ws) e = ap suc (length-of_kind k ks ws (omega arith))

-- a pan has of a kind what lies in it, or nothing
pub of_kind_at :
    (k : ℕ) (ks ws : List ℕ) (i d : ℕ) → length ks ≡ length ws → i < length ws →
    get_or (of_kind k ks ws) i d ≡ cond (eqb (get_or ks i 0) k) (get_or ws i 0) 0
of_kind_at k [] ws i d e l = absurd (omega arith)
of_kind_at k (q ∷ ks) [] i d e l = absurd (omega arith)
of_kind_at k (q ∷ ks) (w ∷ ws) zero d e l = refl
of_kind_at k (q ∷ ks) (w ∷ ws) (suc i) d e l = of_kind_at k ks ws i d (omega arith) (omega arith)

part_le : (b : Bool) (w : ℕ) → cond b w 0 ≤ w
part_le true w = omega arith
part_le false w = omega arith

-- a pan's weight of a kind is at most what lies in it
pub of_kind_light : (m k : ℕ) (ks ws : List ℕ) → ((i : ℕ) → get_or ws i 0 ≤ m) → (i : ℕ) → get_or (of_kind k ks ws) i 0 ≤ m
of_kind_light m k [] ws h i = omega arith
of_kind_light m k (q ∷ ks) [] h i = omega arith
of_kind_light m k (q ∷ ks) (w ∷ ws) h zero = omega (arith, h 0, part_le (eqb q k) w)
of_kind_light m k (q ∷ ks) (w ∷ ws) h (suc i) = of_kind_light m k ks ws (λ j. h (suc j)) i

-- a kind weighs no more than the bag
pub weight_of_kind_le : (k : ℕ) (ks ws : List ℕ) (cs : Choice) → weight_of_kind k ks ws cs ≤ weight_of ws cs
weight_of_kind_le k [] ws cs = omega arith
weight_of_kind_le k (q ∷ ks) [] cs = omega arith
weight_of_kind_le k (q ∷ ks) (w ∷ ws) [] = omega arith
weight_of_kind_le k (q ∷ ks) (w ∷ ws) (true ∷ cs) = omega (arith, part_le (eqb q k) w, weight_of_kind_le k ks ws cs)
weight_of_kind_le k (q ∷ ks) (w ∷ ws) (false ∷ cs) = omega (arith, weight_of_kind_le k ks ws cs)

-- ---- all kinds below m together
abbrev pub weight_of_kinds : ℕ → (kinds weights : List ℕ) → Choice → ℕ
weight_of_kinds zero ks ws cs = 0
weight_of_kinds (suc k) ks ws cs = weight_of_kinds k ks ws cs + weight_of_kind k ks ws cs

nothing_shut : (m q : ℕ) (ks : List ℕ) (w : ℕ) (ws : List ℕ) (cs : Choice) → weight_of_kinds m (q ∷ ks) (w ∷ ws) (false ∷ cs) ≡ weight_of_kinds m ks ws cs
nothing_shut zero q ks w ws cs = refl
nothing_shut (suc k) q ks w ws cs = omega (arith, nothing_shut k q ks w ws cs)

one_kind : (m q : ℕ) (ks : List ℕ) (w : ℕ) (ws : List ℕ) (cs : Choice) → weight_of_kinds m (q ∷ ks) (w ∷ ws) (true ∷ cs) ≡ cond (ltb q m) w 0 + weight_of_kinds m ks ws cs
one_kind zero q ks w ws cs = grind (arith, nat_tests)
one_kind (suc k) q ks w ws cs = omega (arith, one_kind k q ks w ws cs, here)
  where
    here : cond (ltb q k) w 0 + cond (eqb q k) w 0 ≡ cond (ltb q (suc k)) w 0
    here = grind (arith, nat_tests)

nothing_chosen : (m : ℕ) (ks ws : List ℕ) → weight_of_kinds m ks ws [] ≡ 0
nothing_chosen zero ks ws = refl
nothing_chosen (suc k) ks ws = omega (arith, nothing_chosen k ks ws, none ks ws)
  where
    none : (ks ws : List ℕ) → weight_of_kind k ks ws [] ≡ 0
    none [] ws = refl
    none (q ∷ ks) [] = refl
    none (q ∷ ks) (w ∷ ws) = refl

nothing_there : (m : ℕ) (cs : Choice) → weight_of_kinds m [] [] cs ≡ 0
nothing_there zero cs = refl
nothing_there (suc k) cs = omega (arith, nothing_there k cs)

-- where every pan's kind is below m, the kinds below m weigh together what the bag weighs
pub weight_of_kinds_is : (m : ℕ) (ks ws : List ℕ) (cs : Choice) → length ks ≡ length ws → ((i : ℕ) → i < length ks → get_or ks i 0 < m) → weight_of_kinds m ks ws cs ≡ weight_of ws cs
weight_of_kinds_is m [] [] cs e h = nothing_there m cs
weight_of_kinds_is m [] (w ∷ ws) cs e h = absurd (omega arith)
weight_of_kinds_is m (q ∷ ks) [] cs e h = absurd (omega arith)
weight_of_kinds_is m (q ∷ ks) (w ∷ ws) [] e h = nothing_chosen m (q ∷ ks) (w ∷ ws)
weight_of_kinds_is m (q ∷ ks) (w ∷ ws) (false ∷ cs) e h =
    omega (arith, nothing_shut m q ks w ws cs, weight_of_kinds_is m ks ws cs (omega arith) (λ i l. h (suc i) (omega arith)))
weight_of_kinds_is m (q ∷ ks) (w ∷ ws) (true ∷ cs) e h =
    omega (arith, one_kind m q ks w ws cs, ap (λ b. cond b w 0) (lt-ltb q m (h 0 (omega arith))), weight_of_kinds_is m ks ws cs (omega arith) (λ i l. h (suc i) (omega arith)))
