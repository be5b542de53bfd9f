-- Which bits the entries of the halves have: those of the front half and the tops none for the last pans, those of the back half
-- no others.
use Rattle.std.proofs.Common.{◌≡◌, ℕ, ◌+◌, ◌-◌, ◌*◌, ◌%◌, ◌^◌, ◌<◌, ◌≤◌, true, false, List, [], ◌∷◌, length, drop, sym, ap, ◌∙◌, add-mul, mul_assoc, arith}
use Rattle.std.proofs.Math.Nat.{mul-mod_left}
use Rattle.std.proofs.lemmas.Nat.{pow-add}
use Rattle.std.proofs.lemmas.List.{length-drop, length-take}
use Rattle.choices.specs.Choice.{Choice}
use Rattle.halves_places.specs.Place.{place}
use Rattle.halves_places.specs.declared.way.Way.{Way}
use Rattle.halves_places.proofs.Places.{place_says, shut, shut_below}
use Rattle.halves_sieves.specs.Sieve.{part}
use Rattle.halves.proofs.Joining.{Entry}

power : (m free : ℕ) → free ≤ m → 2 ^ m ≡ 2 ^ (m - free) * 2 ^ free
power m free l = ap (λ (k : ℕ). 2 ^ k) {x = m} {y = (m - free) + free} (omega arith) ∙ pow-add 2 (m - free) free

-- the place of a choice of pans with at least so many behind them
place_times : (b free : ℕ) (ws : List ℕ) (cs : Choice) → free ≤ b → free ≤ 24 → (k : ℕ) × (place b ws cs ≡ k * 2 ^ free)
place_times b free [] cs l few = (0, omega arith)
place_times b free (w ∷ ws) [] l few = (0, omega arith)
place_times b free (w ∷ ws) (true ∷ cs) l few =
    let r = place_times b free ws cs l few in
    let F = 2 ^ free in
    let A = 2 ^ (29 - free) in
    let B = 2 ^ (24 - free) in
    let one : 536870912 ≡ A * F = power 29 free (omega arith) in
    let two : 16777216 ≡ B * F = power 24 free few in
    let three : w * 536870912 ≡ w * A * F = ap (λ (k : ℕ). w * k) one ∙ sym (mul_assoc w A F) in
    (w * A + B + r.0, omega (arith, two, three, r.1, add-mul (w * A + B) r.0 F, add-mul (w * A) B F))
place_times b free (w ∷ ws) (false ∷ cs) l few =
    let r = place_times b free ws cs l few in
    let F = 2 ^ free in
    let A = 2 ^ (b + length cs - free) in
    let one : 2 ^ (b + length cs) ≡ A * F = power (b + length cs) free (omega arith) in
    (A + r.0, omega (arith, one, r.1, add-mul A r.0 F))

module _ (ws : List ℕ) (vs : List Way) (few : length ws ≤ 24) (skip len x : ℕ) (e : Entry ws vs skip len x) (within : skip + len ≤ length ws) where
  pub entry_clear : (free : ℕ) → free ≤ length ws - (skip + len) → x % 2 ^ free ≡ 0
  entry_clear free l =
      let t = place_times (length ws - (skip + len)) free (part skip len ws) e.choice l (omega arith) in
      ap (λ (k : ℕ). k % 2 ^ free) (sym e.at ∙ t.1) ∙ mul-mod_left t.0 (2 ^ free)

  pub entry_shut : skip + len ≡ length ws → x % 2 ^ 24 < 2 ^ len
  entry_shut all =
      let z : length ws - (skip + len) ≡ 0 = omega arith in
      let weights : length (part skip len ws) ≡ len = omega (arith, length-take len (drop skip ws), length-drop skip ws) in
      let at : place 0 (part skip len ws) e.choice ≡ x = rw z at e.at in
      let says = place_says (part skip len ws) e.choice (omega (arith, weights)) (e.long ∙ sym weights) in
      let n : 2 ^ (0 + length e.choice) ≡ 2 ^ len = ap (λ (k : ℕ). 2 ^ k) {x = 0 + length e.choice} {y = len} (omega (arith, e.long)) in
      let below = shut_below 0 e.choice in
      let same : x % 16777216 ≡ shut 0 e.choice = ap (λ (k : ℕ). k % 16777216) (sym at) ∙ says.2 in
      omega (arith, same, below, n)
