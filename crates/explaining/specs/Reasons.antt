-- Which reason is told.
--
--   WordEnds    where the first blank stands, or the line's end
--   is_stray    a byte that is neither a digit nor a blank
--   Readable    nothing in the line is flawed, it begins with this word, and behind that stand digits and blanks
--   Cause       the reason for a line that is no command, or can't be obeyed: the first of these that applies
--   Told        the reason for what a line was turned away with
use Rattle.std.specs.Prelude.{◌≡◌, ◌≢◌, ◌≤◌, ◌<◌, ◌+◌, ◌&&◌, ◌==◌, ℕ, Bool, not, List, length, take, drop, Some, None}
use Rattle.std.specs.Prelude.{slice_index}
use Rattle.std.specs.Char.{is_ascii_digit}
use Rattle.std.specs.List.{position}
use Rattle.answers.specs.declared.refusal.Refusal.{Refusal}
use Rattle.answers.specs.declared.refusal.Refusal.TheVariants as refusal
use Rattle.explaining.specs.Flaws.{FirstFlaw}
use Rattle.explaining.specs.Words.{NearestOf}
use Rattle.explaining.specs.declared.reasons.Reason.{Reason}
use Rattle.explaining.specs.declared.reasons.Reason.TheVariants as reason
use Rattle.text.specs.declared.words.Word.{Word}
use Rattle.text.specs.Table.{spelling}

pub record WordEnds (line : List ℕ) (end : ℕ) : Type 0 where
  pub within : end ≤ length line
  pub before : (k : ℕ) → k < end → slice_index line k ≢ 32
  pub found : end < length line → slice_index line end ≡ 32

abbrev pub is_stray : ℕ → Bool
is_stray byte = not (is_ascii_digit byte) && not (byte == 32)

pub record Readable (line : List ℕ) (word : Word) : Type 0 where
  pub unflawed : FirstFlaw line None
  pub end : ℕ
  pub ends : WordEnds line end
  pub known : take end line ≡ spelling word
  pub numbers : position is_stray (drop end line) ≡ None

abbrev pub Cause : List ℕ → Reason → Type 0
Cause line (reason.Flawed flaw place) = FirstFlaw line (Some (flaw, place))
Cause line (reason.Unknown near) = FirstFlaw line None × ((end : ℕ) × WordEnds line end
    × ((word : Word) → take end line ≢ spelling word) × NearestOf (take end line) near)
Cause line (reason.Stray place) = FirstFlaw line None × ((end : ℕ) × WordEnds line end
    × ((word : Word) × (take end line ≡ spelling word)) × ((k : ℕ) × (place ≡ end + k) × (position is_stray (drop end line) ≡ Some k)))
Cause line (reason.Usage word) = Readable line word
Cause line (reason.Rule place) = ⊥
Cause line (reason.Pans count) = ⊥
Cause line (reason.Number place) = ⊥
Cause line (reason.Room entries) = ⊥
Cause line (reason.Further number place) = ⊥

abbrev pub Told : List ℕ → Refusal → Reason → Type 0
Told line (refusal.Rule place) r = r ≡ reason.Rule place
Told line (refusal.Pans count) r = r ≡ reason.Pans count
Told line (refusal.Number place) r = r ≡ reason.Number place
Told line refusal.Line r = Cause line r
Told line (refusal.Room entries) r = r ≡ reason.Room entries
Told line (refusal.Further number place) r = r ≡ reason.Further number place
