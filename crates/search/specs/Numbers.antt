-- What the scan of a ring finds, as a number. Assumes nothing: this is a definition.
--   SoughtOf   the number of the best of all the ring's choices that fit its rule; None: none of them fits
use Rattle.std.specs.Prelude.{ℕ, ◌^◌, Option, length}
use Rattle.choices.specs.Choice.{fits}
use Rattle.choices.specs.Numbered.{choice_of}
use Rattle.choices.specs.declared.ring.Ring.{Ring}
use Rattle.order.specs.Order.{better}
use Rattle.search.specs.Sought.{Sought}

abbrev pub SoughtOf : Ring → Option ℕ → Type 0
SoughtOf r found =
    let n = length r.weights.now in
    Sought (λ k. fits r.rule r.weights.now r.ages.now (choice_of n k)) (λ a b. better r.weights.now (choice_of n a) (choice_of n b)) (2 ^ n) found
