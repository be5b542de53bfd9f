-- When nothing passes beside a top and a front entry, whatever is opened of the back half's pans.
use Rattle.std.proofs.Common.{◌≡◌, ℕ, zero, suc, ◌+◌, ◌-◌, ◌*◌, ◌/◌, ◌%◌, ◌^◌, ◌<◌, ◌≤◌, Bool, true, false, ◌&&◌, leb, ◌⊎◌, List, [], ◌∷◌, length, get_or, refl, sym, ap, ◌∙◌, ⊎_elim, add-mul, mul_assoc, lt_of_mul-lt-mul_right, arith}
use Rattle.std.proofs.Math.Nat.{mod-add-div', mul-add-mod_self_right}
use Rattle.std.proofs.lemmas.Nat.{mod_low, pow-add, pow_pos}
use Rattle.std.proofs.lemmas.Bool.{and_parts, cases_Bool, leb-true}
use Rattle.choices.specs.Choice.{Choice}
use Rattle.choices.specs.Numbered.{choice_of}
use Rattle.choices.proofs.Blocks.{last_opens}
use Rattle.halves_places.specs.Place.{pans_in}
use Rattle.kinds.specs.Kinds.{in_windows, weight_of_kind}
use Rattle.kinds.specs.declared.mixed.Window.{Window}
use Rattle.kinds_halves.specs.Passing.{Between, Useless, passes_by, told}
use Rattle.kinds_halves.proofs.ByKind.{kind_apart, kind_opens}

-- what keeps the windows keeps each of them
window_kept :
    (vs : List Window) (k i : ℕ) (d : Window) (ks ws : List ℕ) (cs : Choice) → i < length vs → in_windows k vs ks ws cs ≡ true →
    ((get_or vs i d).least ≤ weight_of_kind (k + i) ks ws cs) × (weight_of_kind (k + i) ks ws cs ≤ (get_or vs i d).most)
window_kept [] k i d ks ws cs l e = absurd (omega arith)
window_kept (v ∷ vs) k zero d ks ws cs l e =
    let a = and_parts (leb v.least (weight_of_kind k ks ws cs) && leb (weight_of_kind k ks ws cs) v.most) (in_windows (k + 1) vs ks ws cs) e in
    let b = and_parts (leb v.least (weight_of_kind k ks ws cs)) (leb (weight_of_kind k ks ws cs) v.most) a.0 in
    let z : k + 0 ≡ k = omega arith in
    rw z (leb-true _ _ b.0, leb-true _ _ b.1)
window_kept (v ∷ vs) k (suc i) d ks ws cs l e =
    let a = and_parts (leb v.least (weight_of_kind k ks ws cs) && leb (weight_of_kind k ks ws cs) v.most) (in_windows (k + 1) vs ks ws cs) e in
    let z : k + suc i ≡ k + 1 + i = omega arith in
    rw z (window_kept vs (k + 1) i d ks ws cs (omega arith) a.1)

pub window_missed :
    (vs : List Window) (i : ℕ) (d : Window) (ks ws : List ℕ) (barest fullest : ℕ) (cs : Choice) → i < length vs → Between ks ws barest fullest cs →
    (weight_of_kind i ks ws (choice_of (length ws) fullest) < (get_or vs i d).least) ⊎ ((get_or vs i d).most < weight_of_kind i ks ws (choice_of (length ws) barest)) → in_windows 0 vs ks ws cs ≡ false
window_missed vs i d ks ws barest fullest cs l b o = ⊎_elim (λ e. absurd (none e)) (λ e. e) (cases_Bool (in_windows 0 vs ks ws cs))
  where
    none : in_windows 0 vs ks ws cs ≡ true → ⊥
    none e =
        let k = window_kept vs 0 i d ks ws cs l e in
        let z : 0 + i ≡ i = omega arith in
        let k' = rw z at k in
        ⊎_elim (λ f. omega (arith, f, k'.0, (b i).1)) (λ f. omega (arith, f, k'.1, (b i).0)) o

-- a place with no bit for the last pans, of n pans in all: what it tells, and what it tells together with any choice of these
record Tells (n free x : ℕ) : Type 0 where
  rest : ℕ
  full : 2 ^ n - 1 - x % 2 ^ n ≡ rest * 2 ^ free + (2 ^ free - 1)
  each : (b : ℕ) → b % 2 ^ 24 < 2 ^ free → 2 ^ n - 1 - (x + b) % 2 ^ n ≡ rest * 2 ^ free + (2 ^ free - 1 - b % 2 ^ 24)

tells : (n free x : ℕ) → n ≤ 24 → free ≤ n → x % 2 ^ free ≡ 0 → Tells n free x
tells n free x few within clear =
    let F = 2 ^ free in
    let N = 2 ^ n in
    let G = 2 ^ (n - free) in
    let H = 2 ^ (24 - n) in
    let m = x % N in
    let u = m / F in
    let gf : N ≡ G * F = ap (λ (k : ℕ). 2 ^ k) {x = n} {y = (n - free) + free} (omega arith) ∙ pow-add 2 (n - free) free in
    let hn : 16777216 ≡ H * N = ap (λ (k : ℕ). 2 ^ k) {x = 24} {y = (24 - n) + n} (omega arith) ∙ pow-add 2 (24 - n) n in
    let parts : m + x / N * N ≡ x = mod-add-div' x N in
    let wide : x / N * N ≡ x / N * G * F = ap (λ (k : ℕ). x / N * k) gf ∙ sym (mul_assoc (x / N) G F) in
    let whole : x / N * G * F + m ≡ x = omega (arith, parts, wide) in
    let even : m % F ≡ 0 = sym (mul-add-mod_self_right (x / N * G) F m) ∙ (ap (λ (k : ℕ). k % F) whole ∙ clear) in
    let times : m ≡ u * F = omega (arith, mod-add-div' m F, even) in
    let below : m < N = omega (arith, pow_pos n) in
    let lt : u < G = lt_of_mul-lt-mul_right F (omega (arith, times, below, gf)) in
    let rest = G - 1 - u in
    let sum : rest * F + (u + 1) * F ≡ N = sym (add-mul rest (u + 1) F) ∙ (ap (λ (k : ℕ). k * F) {x = rest + (u + 1)} {y = G} (omega arith) ∙ sym gf) in
    let more : (u + 1) * F ≡ u * F + F = omega (arith, add-mul u 1 F) in
    let some : 0 < F = pow_pos free in
    record {
      rest = rest;
      full = omega (arith, sum, more, times);
      each = λ b shut.
          let s = b % 16777216 in
          let cut : s + b / 16777216 * 16777216 ≡ b = mod-add-div' b 16777216 in
          let high : b / 16777216 * 16777216 ≡ b / 16777216 * H * N = ap (λ (k : ℕ). b / 16777216 * k) hn ∙ sym (mul_assoc (b / 16777216) H N) in
          let both : (x / N + b / 16777216 * H) * N + (m + s) ≡ x + b = omega (arith, parts, cut, high, add-mul (x / N) (b / 16777216 * H) N) in
          let small : m + s < N = omega (arith, sum, more, times, shut) in
          let low : (x + b) % N ≡ m + s = ap (λ (k : ℕ). k % N) (sym both) ∙ mod_low (x / N + b / 16777216 * H) n (m + s) small in
          omega (arith, sum, more, times, low, shut);
    }

-- so it tells of no less than the barest choice and of no more than the fullest
module _ (ks ws : List ℕ) (free x : ℕ) (few : length ws ≤ 24) (within : free ≤ length ws) (clear : x % 2 ^ free ≡ 0) where
  pub last_fits : 2 ^ free - 1 ≤ 2 ^ length ws - 1 - x % 2 ^ length ws
  last_fits = let t' = tells (length ws) free x few within clear in omega (arith, t'.full)

  pub between : (b : ℕ) → b % 2 ^ 24 < 2 ^ free → Between ks ws (2 ^ length ws - 1 - x % 2 ^ length ws - (2 ^ free - 1)) (2 ^ length ws - 1 - x % 2 ^ length ws) (told (length ws) (x + b))
  between b shut k =
      let t' = tells (length ws) free x few within clear in
      let r = 2 ^ free - 1 - b % 2 ^ 24 in
      let small : r < 2 ^ free = omega (arith, pow_pos free) in
      let bare : 2 ^ length ws - 1 - x % 2 ^ length ws - (2 ^ free - 1) ≡ t'.rest * 2 ^ free = omega (arith, t'.full) in
      rw (bare, t'.full, t'.each b shut) (omega (arith, kind_apart k ks ws (length ws) t'.rest free r small), kind_opens k ks ws (length ws) _ _ (last_opens t'.rest free r small))

  pub useless_is :
      (limit : ℕ) (vs : List Window) → ((cs : Choice) → Between ks ws (2 ^ length ws - 1 - x % 2 ^ length ws - (2 ^ free - 1)) (2 ^ length ws - 1 - x % 2 ^ length ws) cs → in_windows 0 vs ks ws cs ≡ false) →
      Useless (passes_by limit vs ks ws) x free
  useless_is limit vs h b shut = ap (λ (e : Bool). leb (pans_in (x + b)) limit && e) (h (told (length ws) (x + b)) (between b shut)) ∙ and_false (leb (pans_in (x + b)) limit)
    where
      and_false : (a : Bool) → (a && false) ≡ false
      and_false true = refl
      and_false false = refl
