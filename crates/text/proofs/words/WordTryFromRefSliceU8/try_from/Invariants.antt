-- The name is none of the spellings so far.
use Rattle.std.proofs.Common.{◌≡◌, ℕ, ◌<◌, get_or, []}
use Rattle.text.proofs.Rows.{spellings}
use Rattle.text.proofs.words.WordTryFromRefSliceU8.try_from.Given as goal

abbrev pub invariant-loop-word : goal.invariant-loop-word
invariant-loop-word l = (k : ℕ) → k < l.word-index → l.name ≡ get_or spellings k [] → ⊥
