-- What the number's loop keeps: the pans seen so far as a number, which stays in range.
use Rattle.std.proofs.Common.{◌≡◌}
use Rattle.choices.specs.Numbered.{choice_of, number_of}
use Rattle.choices.proofs.choice.number.Given as goal

abbrev pub invariant-loop-place : goal.invariant-loop-place
invariant-loop-place l = l.made ≡ number_of (choice_of l.place l.choice)
