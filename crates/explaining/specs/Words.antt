-- The known word that is nearest to what was written.
--
--   edits_to    the least number of bytes put in, taken away or changed
--   NearestOf   the word of a command that at most two edits lead to, and none that fewer lead to; or that each takes three
use Rattle.std.specs.Prelude.{◌≤◌, ℕ, List, length, Option, MatchOption, nat_eq}
use Rattle.strsim.specs.Edits.{levenshtein_row}
use Rattle.text.specs.declared.words.Word.{Word}
use Rattle.text.specs.Table.{spelling}

abbrev pub edits_to : (name word : List ℕ) → ℕ
edits_to name word = levenshtein_row nat_eq name word (length word)

abbrev pub NearestOf : (name : List ℕ) → Option Word → Type 0
NearestOf name r = MatchOption r
    ((word : Word) → 3 ≤ edits_to name (spelling word))
    (λ found. (edits_to name (spelling found) ≤ 2) × ((word : Word) → edits_to name (spelling found) ≤ edits_to name (spelling word)))
