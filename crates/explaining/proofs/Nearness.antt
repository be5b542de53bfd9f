-- The nearest of the words that were looked at.
use Rattle.std.proofs.Common.{◌≡◌, ◌≤◌, ◌<◌, ◌+◌, ℕ, List, map, length, get_or, take, inl, inr, refl, sym, subst, arith}
use Rattle.std.proofs.lemmas.Bool.{cases_lt}
use Rattle.std.proofs.lemmas.List.{take_all}
use Rattle.std.proofs.lemmas.List.Elements.{All-get_or, All-map}
use Rattle.std.specs.Prelude.{All, MatchOption, Option, Some, None}
use denote.Enum.Declared.{tag_of}
use Rattle.text.specs.declared.words.TheConstants.{ROWS}
use Rattle.text.specs.declared.words.Word.TheVariants.{Rule}
use Rattle.text.specs.contracts.words.Word.{the_type}
use Rattle.std.specs.Borrow.{Bor}
use Rattle.text.specs.declared.words.Count.{Count}
use Rattle.text.specs.declared.words.Word.{Word}
use Rattle.text.specs.Table.{spelling}
use Rattle.explaining.specs.Words.{edits_to, NearestOf}

abbrev pub Row : Type 0
Row = Word × Bor (List ℕ) × Count × Bor (List ℕ)

-- the least number of edits of the rows looked at is that of the word found, or three where none is
pub record Nearest (name : List ℕ) (rows : List Row) (found : Option Word) (least : ℕ) : Type 0 where
  pub how_near : MatchOption found (least ≡ 3) (λ word. (edits_to name (spelling word) ≡ least) × (least ≤ 2))
  pub none_nearer : All (λ row. least ≤ edits_to name (spelling row.0)) rows

abbrev pub words : List Word
words = map (λ r. r.0) ROWS

-- where a word's row stands
abbrev place : Word → ℕ
place w = tag_of the_type w

-- The first word alone is named: the others are computed one by one in the clause for all of them.
has_row : (w : Word) → (place w < length words) × (get_or words (place w) Rule ≡ w)
has_row Rule = (omega arith, refl)
has_row w = (omega arith, refl)

-- what holds of the word of each row holds of each word
pub all_words : (P : Word → Type 0) (rows : List Row) (n : ℕ) → map (λ r. r.0) rows ≡ words → length rows ≤ n → All (λ row. P row.0) (take n rows) → (w : Word) → P w
all_words P rows n same long all w =
    let row = has_row w in
    let each : All P words = subst (All P) same (All-map P (λ r. r.0) rows (subst (All (λ row. P row.0)) (take_all n rows long) all)) in
    subst P row.1 (All-get_or P words (place w) Rule row.0 each)

-- where no word is nearer than the one found, that one is the nearest
pub nearest_of : (name : List ℕ) (rows : List Row) (found : Option Word) (least : ℕ) → Nearest name rows found least → ((w : Word) → least ≤ edits_to name (spelling w)) → NearestOf name found
nearest_of name rows None least near all = λ w. subst (λ k. k ≤ edits_to name (spelling w)) near.how_near (all w)
nearest_of name rows (Some v) least near all =
    (omega (arith, near.how_near.0, near.how_near.1), λ w. subst (λ k. k ≤ edits_to name (spelling w)) (sym near.how_near.0) (all w))

-- what holds of all below a number and of the number holds of all below the next
pub below_more : (P : ℕ → Type 0) (n : ℕ) → ((k : ℕ) → k < n → P k) → P n → (k : ℕ) → k < n + 1 → P k
below_more P n below here k lt = elim (cases_lt k n) [
  | inl less ↦ below k less
  | inr more ↦ let same : n ≡ k = omega arith in subst P same here
]
