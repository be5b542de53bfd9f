-- Looks back in a row behind a pad of 255, and a row joined with two pans in one pass.
use Rattle.std.proofs.Common.{◌≡◌, ℕ, ◌+◌, ◌-◌, ◌<◌, ◌≤◌, min, ◌⊎◌, List, get_or, refl, inl, inr, arith}
use Rattle.std.proofs.lemmas.Bool.{cases_lt, le-leb, lt-leb}
use Rattle.table.specs.Rows.{back, joined, row_at}

pub back_far : (f : ℕ → ℕ) (w x : ℕ) → x < w → back f w x ≡ 255
back_far f w x h = rw (lt-leb w x h) refl

pub back_near : (f : ℕ → ℕ) (w x : ℕ) → w ≤ x → back f w x ≡ f (x - w)
back_near f w x h = rw (le-leb w x h) refl

-- a pan of weight 0 changes nothing
pub joined_nothing : (f : ℕ → ℕ) (x : ℕ) → joined f 0 x ≡ min (f x) 255
joined_nothing f x = let e : x - 0 ≡ x = omega arith in rw (back_near f 0 x (omega arith), e) (omega arith)

-- the last block of a pad
pub pad_block :
    (bytes : List ℕ) {row pad : ℕ} → 64 ≤ pad → pad ≤ row → ((j : ℕ) → j < pad → get_or bytes (row - pad + j) 0 ≡ 255) →
    (j : ℕ) → j < 64 → get_or bytes (row - 64 + j) 0 ≡ 255
pad_block bytes {row} {pad} long low blank j less =
    let k : ℕ = pad - 64 + j in
    let e : row - 64 + j ≡ row - pad + k = omega (arith, long, low) in
    rw e (blank k (omega (arith, long)))

-- a look back by a weight, but by at most `most`; a weight that is more is too far, and the look ends in the pad
pub shifted :
    (bytes : List ℕ) (row pad w x most : ℕ) → pad ≤ row → ((j : ℕ) → j < pad → get_or bytes (row - pad + j) 0 ≡ 255) → (most < w → x < most) → most ≤ x + pad →
    get_or bytes (row + x - min w most) 0 ≡ back (row_at bytes row) w x
shifted bytes row pad w x most low blank above reach = at (cases_lt x w) (cases_lt most w)
  where
    at : (x < w) ⊎ (w ≤ x) → (most < w) ⊎ (w ≤ most) → get_or bytes (row + x - min w most) 0 ≡ back (row_at bytes row) w x
    at (inl far) (inl more) =
        let e : row + x - min w most ≡ row - pad + (pad + x - most) = omega arith in
        rw (e, back_far (row_at bytes row) w x far) (blank (pad + x - most) (omega (arith, above more)))
    at (inl far) (inr less) =
        let e : row + x - min w most ≡ row - pad + (pad + x - w) = omega arith in
        rw (e, back_far (row_at bytes row) w x far) (blank (pad + x - w) (omega arith))
    at (inr near) (inl more) = absurd (omega (arith, above more))
    at (inr near) (inr less) =
        let e : row + x - min w most ≡ row + (x - w) = omega arith in
        rw (e, back_near (row_at bytes row) w x near) refl

-- a look back by two pans is one by the first and then by the second
pub back_both : (f : ℕ → ℕ) (u v x : ℕ) → u ≤ x → back f (u + v) x ≡ back f v (x - u)
back_both f u v x near = at (cases_lt x (u + v))
  where
    at : (x < u + v) ⊎ (u + v ≤ x) → back f (u + v) x ≡ back f v (x - u)
    at (inl far) = rw (back_far f (u + v) x far, back_far f v (x - u) (omega arith)) refl
    at (inr more) =
        let e : x - (u + v) ≡ x - u - v = omega arith in
        rw (back_near f (u + v) x more, back_near f v (x - u) (omega arith), e) refl

-- a look back by one pan in the row with the other
pub back_joined :
    (f : ℕ → ℕ) (u v x : ℕ) → min (back f u x) (min (back f (u + v) x + 1) 255) ≡ back (joined f v) u x
back_joined f u v x = at (cases_lt x u)
  where
    at : (x < u) ⊎ (u ≤ x) → min (back f u x) (min (back f (u + v) x + 1) 255) ≡ back (joined f v) u x
    at (inl far) = rw (back_far f u x far, back_far f (u + v) x (omega arith), back_far (joined f v) u x far) refl
    at (inr h) = rw (back_near f u x h, back_both f u v x h, back_near (joined f v) u x h) refl

-- the least of the four bytes is the row joined with both pans
pub four_joined :
    (f : ℕ → ℕ) (u v x : ℕ) →
    min (f x) (min (min (back f v x) (min (back f u x) (min (back f (u + v) x + 1) 255)) + 1) 255) ≡ joined (joined f v) u x
four_joined f u v x = rw (back_joined f u v x) (omega arith)

-- a second pan of weight 0, and a first one
pub second_nothing : (f : ℕ → ℕ) (w x : ℕ) → joined (joined f 0) w x ≡ joined f w x
second_nothing f w x = at (cases_lt x w)
  where
    at : (x < w) ⊎ (w ≤ x) → joined (joined f 0) w x ≡ joined f w x
    at (inl far) = rw (back_far (joined f 0) w x far, back_far f w x far, joined_nothing f x) (omega arith)
    at (inr near) = rw (back_near (joined f 0) w x near, back_near f w x near, joined_nothing f x, joined_nothing f (x - w)) (omega arith)

pub first_nothing : (f : ℕ → ℕ) (w x : ℕ) → joined (joined f w) 0 x ≡ joined f w x
first_nothing f w x = rw (joined_nothing (joined f w) x) (omega arith)

-- of two pans one weighs nothing
pub one_joined : (f : ℕ → ℕ) (first second x : ℕ) → min first second ≡ 0 → joined (joined f 0) (first + second) x ≡ joined (joined f second) first x
one_joined f first second x none = at (cases_lt 0 first)
  where
    at : (0 < first) ⊎ (first ≤ 0) → joined (joined f 0) (first + second) x ≡ joined (joined f second) first x
    at (inl more) =
        let e : second ≡ 0 = omega arith in
        let z : first + 0 ≡ first = omega arith in
        rw (e, z) refl
    at (inr less) =
        let e : first ≡ 0 = omega arith in
        let z : 0 + second ≡ second = omega arith in
        rw (e, z, second_nothing f second x, first_nothing f second x) refl

-- rows that agree up to a weight
pub joined_same : (f g : ℕ → ℕ) (w x : ℕ) → ((z : ℕ) → z ≤ x → f z ≡ g z) → joined f w x ≡ joined g w x
joined_same f g w x same = at (cases_lt x w)
  where
    at : (x < w) ⊎ (w ≤ x) → joined f w x ≡ joined g w x
    at (inl far) = rw (back_far f w x far, back_far g w x far, same x (omega arith)) refl
    at (inr near) = rw (back_near f w x near, back_near g w x near, same x (omega arith), same (x - w) (omega arith)) refl

pub both_same : (f g : ℕ → ℕ) (v u x : ℕ) → ((z : ℕ) → z ≤ x → f z ≡ g z) → joined (joined f v) u x ≡ joined (joined g v) u x
both_same f g v u x same = joined_same (joined f v) (joined g v) u x (λ z low. joined_same f g v z (λ y less. same y (omega arith)))
