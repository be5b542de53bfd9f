-- What a row's cost a pan's weight further to the front is.
use Rattle.std.proofs.Common.{◌≡◌, ℕ, ◌-◌, ◌<◌, ◌≤◌, false, leb, refl, arith}
use Rattle.std.proofs.lemmas.Bool.Decides.{nat_tests}
use Rattle.std.proofs.lemmas.Bool.{le-leb}
use Rattle.kinds_table.specs.Costs.{never}
use Rattle.kinds_table.specs.Rows.{back}

pub back_near : (row : ℕ → ℕ) (w x : ℕ) → w ≤ x → back row w x ≡ row (x - w)
back_near row w x near = rw (le-leb w x near) refl

pub back_far : (row : ℕ → ℕ) (w x : ℕ) → x < w → back row w x ≡ never
back_far row w x far = rw (no far) refl
  where
    no : x < w → leb w x ≡ false
    no l = grind (arith, nat_tests)
