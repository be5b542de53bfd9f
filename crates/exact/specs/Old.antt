-- What is told of the old pans of a ring. Assumes nothing: this is a definition.
--   OldPansOf   what they weigh, how many they are, the number of the choice of them, and whether none of them is empty
use Rattle.std.specs.Prelude.{◌≡◌, ℕ, List}
use Rattle.choices.specs.Choice.{weight_of, opened, none_empty}
use Rattle.choices.specs.Numbered.{number_of}
use Rattle.exact.specs.Pans.{only_old}
use Rattle.exact.specs.declared.old.OldPans.{OldPans}

pub record OldPansOf (old : ℕ) (ws as' : List ℕ) (d : OldPans) : Type 0 where
  pub weighs : d.weight ≡ weight_of ws (only_old old as')
  pub counts : d.pans ≡ opened (only_old old as')
  pub numbers : d.number ≡ number_of (only_old old as')
  pub fills : d.filled ≡ none_empty ws (only_old old as')
