-- A loop that lets handfuls fall into the empty pans, in place.
use Rattle.std.proofs.Common.{◌≡◌, ℕ, zero, suc, ◌+◌, ◌%◌, ◌<◌, ◌≤◌, ◌⊎◌, List, [], ◌∷◌, ◌++◌, length, get_or, take, drop, set, sym, refl, ap, ◌∙◌, inl, inr, arith}
use Rattle.std.proofs.lemmas.List.{append_assoc, append-nil, take_more_set, drop-set-lt, drop_more, take_all, drop_all}
use Rattle.choices.specs.Stand.{total}
use Rattle.laws.specs.Rows.{Falls, done, keeps, takes}
use Rattle.seasons.specs.Handfuls.{on, hands, place, empties, filled}

pub on_is : (hs : List ℕ) (p : ℕ) → p < length hs → on hs p ≡ (p + 1) % length hs
on_is [] p l = absurd (omega arith)
on_is (h ∷ hs) p l = refl

-- one pan: it was empty and has the next handful, or it keeps what it has
abbrev pub Poured : List ℕ → (x y p q : ℕ) → Type 0
Poured hs x y p q = ((x ≡ 0) × (y ≡ get_or hs p 0) × (q ≡ on hs p)) ⊎ ((0 < x) × (y ≡ x) × (q ≡ p))

abbrev poured : (hs ws : List ℕ) → ℕ → List ℕ
poured hs ws p = filled ws (hands hs p (empties ws))

poured_here : (hs : List ℕ) (x y p q : ℕ) (ws : List ℕ) → Poured hs x y p q → poured hs (x ∷ ws) p ≡ y ∷ poured hs ws q
poured_here hs zero y p q ws (inl h) = rw (h.1, h.2)
poured_here hs zero y p q ws (inr h) = absurd (omega (arith, h.0))
poured_here hs (suc x) y p q ws (inl h) = absurd (omega (arith, h.0))
poured_here hs (suc x) y p q ws (inr h) = rw (h.1, h.2)

place_here : (hs : List ℕ) (x y p q : ℕ) (ws : List ℕ) → Poured hs x y p q → place hs p (empties (x ∷ ws)) ≡ place hs q (empties ws)
place_here hs zero y p q ws (inl h) = rw h.2
place_here hs zero y p q ws (inr h) = absurd (omega (arith, h.0))
place_here hs (suc x) y p q ws (inl h) = absurd (omega (arith, h.0))
place_here hs (suc x) y p q ws (inr h) = rw h.2

-- what is done, then what is still to do from the place p on
pub record Filling (hs ws₀ : List ℕ) (from : ℕ) (ws : List ℕ) (i p : ℕ) : Type 0 where
  pub within : p < length hs
  pub after : take i ws ++ filled (drop i ws) (hands hs p (empties (drop i ws))) ≡ filled ws₀ (hands hs from (empties ws₀))
  pub value : place hs p (empties (drop i ws)) ≡ place hs from (empties ws₀)

pub filling_more :
    {hs ws₀ : List ℕ} {from : ℕ} {ws : List ℕ} {i p : ℕ} (y q : ℕ) → Filling hs ws₀ from ws i p → i < length ws →
    Poured hs (get_or ws i 0) y p q → q < length hs → Filling hs ws₀ from (set ws i y) (i + 1) q
filling_more {hs} {ws₀} {from} {ws} {i} {p} y q f l h b =
    record {
      within = b;
      after =
          rw (take_more_set ws i y l, drop-set-lt (i + 1) ws i y (omega arith), append_assoc (take i ws) (y ∷ []) (poured hs (drop (i + 1) ws) q))
          (ap (λ (zs : List ℕ). take i ws ++ zs) (sym (poured_here hs (get_or ws i 0) y p q (drop (i + 1) ws) h) ∙ ap (λ (zs : List ℕ). poured hs zs p) (sym (drop_more ws i 0 l))) ∙ f.after);
      value =
          rw (drop-set-lt (i + 1) ws i y (omega arith))
          (sym (place_here hs (get_or ws i 0) y p q (drop (i + 1) ws) h) ∙ ap (λ (zs : List ℕ). place hs p (empties zs)) (sym (drop_more ws i 0 l)) ∙ f.value);
    }

pub filling_all :
    {hs ws₀ : List ℕ} {from : ℕ} {ws : List ℕ} {i p : ℕ} → Filling hs ws₀ from ws i p → length ws ≤ i →
    (p ≡ place hs from (empties ws₀)) × (ws ≡ filled ws₀ (hands hs from (empties ws₀)))
filling_all {hs} {ws₀} {from} {ws} {i} {p} f l = (
  rw (drop_all i ws l) at f.value,
  sym (rw (take_all i ws l, drop_all i ws l) (append-nil ws)) ∙ f.after,
)

-- with an empty list nothing falls
filled_none : (ws : List ℕ) (i : ℕ) → filled ws (hands [] i (empties ws)) ≡ ws
filled_none [] i = refl
filled_none (zero ∷ ws) i = ap (λ (zs : List ℕ). 0 ∷ zs) (filled_none ws i)
filled_none (suc w ∷ ws) i = ap (λ (zs : List ℕ). suc w ∷ zs) (filled_none ws i)

place_none : (i n : ℕ) → place [] i n ≡ i
place_none i zero = refl
place_none i (suc n) = place_none i n

pub nothing_falls : (hs ws : List ℕ) (i : ℕ) → length hs ≡ 0 → (i ≡ place hs i (empties ws)) × (ws ≡ filled ws (hands hs i (empties ws)))
nothing_falls [] ws i e = (sym (place_none i (empties ws)), sym (filled_none ws i))
nothing_falls (h ∷ hs) ws i e = absurd (omega arith)

-- so many handfuls, and then so many more
pub place_add : (hs : List ℕ) (i k m : ℕ) → place hs (place hs i k) m ≡ place hs i (k + m)
place_add hs i zero m = ap (place hs i) {x = m} {y = 0 + m} (omega arith)
place_add hs i (suc k) m = place_add hs (on hs i) k m ∙ ap (place hs i) {x = suc (k + m)} {y = suc k + m} (omega arith)

pub hands_add : (hs : List ℕ) (i k m : ℕ) → hands hs i k ++ hands hs (place hs i k) m ≡ hands hs i (k + m)
hands_add hs i zero m = ap (hands hs i) {x = m} {y = 0 + m} (omega arith)
hands_add hs i (suc k) m = ap (λ (zs : List ℕ). get_or hs i 0 ∷ zs) (hands_add hs (on hs i) k m) ∙ ap (hands hs i) {x = suc (k + m)} {y = suc k + m} (omega arith)

pub length_hands : (hs : List ℕ) (i n : ℕ) → length (hands hs i n) ≡ n
length_hands hs i zero = refl
length_hands hs i (suc n) = ap suc (length_hands hs (on hs i) n)

-- handfuls and pans within a limit stay so
pub hands_small : (m : ℕ) (hs : List ℕ) → ((i : ℕ) → get_or hs i 0 ≤ m) → (i n k : ℕ) → get_or (hands hs i n) k 0 ≤ m
hands_small m hs h i zero k = omega arith
hands_small m hs h i (suc n) zero = h i
hands_small m hs h i (suc n) (suc k) = hands_small m hs h (on hs i) n k

pub filled_small : (m : ℕ) (ws ps : List ℕ) → ((i : ℕ) → get_or ws i 0 ≤ m) → ((i : ℕ) → get_or ps i 0 ≤ m) → (i : ℕ) → get_or (filled ws ps) i 0 ≤ m
filled_small m [] ps h k i = omega arith
filled_small m (zero ∷ ws) [] h k zero = omega arith
filled_small m (zero ∷ ws) [] h k (suc i) = filled_small m ws [] (λ j. h (suc j)) k i
filled_small m (zero ∷ ws) (p ∷ ps) h k zero = k 0
filled_small m (zero ∷ ws) (p ∷ ps) h k (suc i) = filled_small m ws ps (λ j. h (suc j)) (λ j. k (suc j)) i
filled_small m (suc w ∷ ws) ps h k zero = h 0
filled_small m (suc w ∷ ws) ps h k (suc i) = filled_small m ws ps (λ j. h (suc j)) k i

pub falls_filled : (ws ps : List ℕ) → length ps ≡ empties ws → Falls ws (filled ws ps) (total ps)
falls_filled [] [] e = done
falls_filled [] (p ∷ ps) e = absurd (omega arith)
falls_filled (zero ∷ ws) [] e = absurd (omega arith)
falls_filled (zero ∷ ws) (p ∷ ps) e = takes p (falls_filled ws ps (omega arith))
falls_filled (suc w ∷ ws) ps e = keeps (suc w) (falls_filled ws ps e)

pub total_append : (xs ys : List ℕ) → total (xs ++ ys) ≡ total xs + total ys
total_append [] ys = omega arith
total_append (x ∷ xs) ys = omega (arith, total_append xs ys)
