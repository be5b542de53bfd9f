-- What a look over a ring has to tell of its table. Assumes nothing: these are definitions.
--   Surveyed   s adds up the old and the free pans, and no sum is too large
use Rattle.std.specs.Prelude.{◌≡◌, ℕ, ◌+◌, ◌≤◌, List}
use Rattle.choices.specs.declared.limits.TheConstants.{LIMIT, PANS}
use Rattle.table.specs.Pans.{old_weight_of, old_count_of, free_weight, heaviest, none_old_empty}
use Rattle.table.specs.declared.survey.Survey.{Survey}

pub record Surveyed (old : ℕ) (ws as' : List ℕ) (s : Survey) : Type 0 where
  pub old_weight : s.old_weight ≡ old_weight_of old ws as'
  pub old_count : s.old_count ≡ old_count_of old as'
  pub free : s.free ≡ free_weight old ws as'
  pub heavy : s.heaviest ≡ heaviest old ws as'
  pub old_filled : s.old_filled ≡ none_old_empty old ws as'
  pub light : s.old_weight + s.free ≤ 24000000
  pub some : s.heaviest ≤ LIMIT
  pub few : s.old_count ≤ PANS
