-- Counts are tried from 0 up: the first at which some choice weighs exactly so much is the least.
use Rattle.std.proofs.Common.{◌≡◌, ℕ, ◌+◌, ◌<◌, ◌≤◌, ◌⊎◌, List, Some, None, Option, inl, inr, arith}
use Rattle.std.proofs.lemmas.Bool.{cases_lt}
use Rattle.exact.specs.Few.{Never, Picked, Picks, ChosenAt, Chosen}
use Rattle.exact.proofs.Leading.{picked_none, never_none}

pub record Fewer (k : ℕ) (ws : List ℕ) (x : ℕ) : Type 0 where
  pub none : (j : ℕ) → j < k → Never j ws x

pub fewer_one : {ws : List ℕ} {x : ℕ} → 0 < x → Fewer 1 ws x
fewer_one {ws} {x} some = record { none = λ j less. let e : j ≡ 0 = omega arith in rw e (never_none some) }

pub fewer_more : {k : ℕ} {ws : List ℕ} {x : ℕ} → Fewer k ws x → Never k ws x → Fewer (k + 1) ws x
fewer_more {k} {ws} {x} f never = record { none = λ j less. at j less (cases_lt j k) }
  where
    at : (j : ℕ) → j < k + 1 → (j < k) ⊎ (k ≤ j) → Never j ws x
    at j less (inl lower) = f.none j lower
    at j less (inr same) = let e : j ≡ k = omega arith in rw e never

pub chosen_some : {k most n x : ℕ} {ws : List ℕ} → Fewer k ws x → k ≤ most → Picked k ws x n → ChosenAt most ws x n
chosen_some {k} f low p = record { count = k; within = low; fewer = f.none; picked = p }

pub chosen_none : {k most x : ℕ} {ws : List ℕ} → Fewer k ws x → most < k → Chosen most ws x None
chosen_none f high j low few = f.none j (omega arith)

-- weight 0 takes no pan
pub chosen_zero : {most x : ℕ} {ws : List ℕ} → x ≡ 0 → ChosenAt most ws x 0
chosen_zero e = rw e (record { count = 0; within = omega arith; fewer = λ j less cs m. omega arith; picked = picked_none })

-- four is the last that is tried
pub chosen_four : {most x : ℕ} {ws : List ℕ} → Fewer 4 ws x → 4 ≤ most → (r : Option ℕ) → Picks 4 ws x r → Chosen most ws x r
chosen_four f low None never = λ j within few. (fewer_more f never).none j (omega arith)
chosen_four f low (Some n) p = chosen_some f low p
