-- A test more: what it lets pass over, and what rules a block out.
use Rattle.std.proofs.Common.{◌≡◌, ℕ, ◌+◌, ◌-◌, ◌%◌, ◌^◌, ◌<◌, Bool, true, false, ◌&&◌, List, length, Some, None, Option, refl, arith}
use Rattle.std.proofs.lemmas.Bool.{and_parts}
use Rattle.std.proofs.lemmas.Bool.Decides.{nat_tests}
use Rattle.choices.specs.Choice.{weight_of}
use Rattle.choices.specs.Numbered.{choice_of}
use Rattle.kinds.specs.declared.mixed.Window.{Window}
use Rattle.kinds_scan.specs.Within.{Outside}
use Rattle.search.specs.Sought.{Passes}
use Rattle.search.proofs.Useless.{sum_more, sum_last}

-- what may be passed over by one test may be by that and another
pub passes_less :
    (p q : ℕ → Bool) (beats : ℕ → ℕ → Bool) (k : ℕ) (best : Option ℕ) → Passes p beats best k → Passes (λ j. p j && q j) beats best k
passes_less p q beats k None h = rw h refl
passes_less p q beats k (Some b) h = λ a. h (and_parts _ _ a).0

pub and_shut : (a b : Bool) → b ≡ false → (a && b) ≡ false
and_shut true b e = e
and_shut false b e = refl

module _ (v : Window) (ws : List ℕ) (head t : ℕ) (block : head % 2 ^ t ≡ 0) where
  -- the head has too much of the kind, so every choice of the block has
  pub too_much : v.most < weight_of ws (choice_of (length ws) head) → Outside v ws head t
  too_much h j a b =
      let more = sum_more ws head t j block a b ws (length ws) in grind (arith, nat_tests, more)

  -- the last has too little of it, so every choice of the block has
  pub too_little : weight_of ws (choice_of (length ws) (head + 2 ^ t - 1)) < v.least → Outside v ws head t
  too_little h j a b =
      let last = sum_last ws head t j block a b ws (length ws) in grind (arith, nat_tests, last)
