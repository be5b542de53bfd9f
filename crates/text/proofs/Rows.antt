-- What holds of every word, computed from the table's rows.
use Rattle.std.proofs.Common.{◌≡◌, ℕ, ◌<◌, ◌≤◌, true, not, true≢false, ◌==◌, List, [], ◌∷◌, map, length, get_or, Option, Some, unwrap_or, refl, sym, ap, ◌∙◌, arith, nat_eq}
use Rattle.std.proofs.lemmas.Bool.{and_parts}
use Rattle.std.proofs.lemmas.List.{get_or-map}
use Rattle.std.specs.Borrow.{Bor}
use Rattle.std.specs.List.{find, list_all, AllByRecursion as All}
use denote.Enum.Declared.{tag_of}
use lib.Pointwise.{pointwise}
use Rattle.text.specs.declared.words.TheConstants.{ROWS}
use Rattle.text.specs.declared.words.Count.{Count}
use Rattle.text.specs.declared.words.Word.{Word}
use Rattle.text.specs.declared.words.Word.TheVariants.{Rule}
use Rattle.text.specs.contracts.words.Word.{the_type}
use Rattle.text.specs.Table.{spelling}

abbrev words : List Word
words = map (λ r. r.0) ROWS

abbrev pub spellings : List (List ℕ)
spellings = map (λ r. r.1.now) ROWS

-- a row as the code has it, with a reference to the text
module _ (rows : List (Word × Bor (List ℕ) × Count × Bor (List ℕ))) (i : ℕ) (d : Word × Bor (List ℕ) × Count × Bor (List ℕ)) (inside : i < length rows) where
  pub row_text : map (λ r. r.1.now) rows ≡ spellings → (get_or rows i d).1.now ≡ get_or spellings i []
  row_text same = sym (get_or-map (λ r. r.1.now) rows i d [] inside) ∙ ap (λ l. get_or l i []) same

  pub row_spells : map (λ r. spelling r.0) rows ≡ map (λ r. r.1.now) rows → (get_or rows i d).1.now ≡ spelling (get_or rows i d).0
  row_spells same = sym (get_or-map (λ r. r.1.now) rows i d [] inside) ∙ ap (λ l. get_or l i []) (sym same) ∙ get_or-map (λ r. spelling r.0) rows i d [] inside

-- where a word's row stands
abbrev place : Word → ℕ
place w = tag_of the_type w

-- Each lemma names the first word alone: the others are computed one by one in the clause for all of them.

has_row : (w : Word) → (place w < length spellings) × (get_or spellings (place w) [] ≡ spelling w)
has_row Rule = (omega arith, refl)
has_row w = (omega arith, refl)

-- a name that no row spells is no word's
pub no_row : (bs : List ℕ) (n : ℕ) → length spellings ≤ n → ((k : ℕ) → k < n → bs ≡ get_or spellings k [] → ⊥) → (w : Word) → bs ≡ spelling w → ⊥
no_row bs n all none w e = let row = has_row w in none (place w) (omega (arith, row.0, all)) (e ∙ sym row.1)

-- the first word that is spelled so
named : List ℕ → Option Word
named bs = find (λ w. pointwise nat_eq (spelling w) bs) words

named_spelling : (w : Word) → named (spelling w) ≡ Some w
unfolding named
named_spelling Rule = refl
named_spelling w = refl

-- no two words are spelled alike
pub same_word : (v w : Word) → spelling v ≡ spelling w → v ≡ w
same_word v w e = ap (λ o. unwrap_or o v) (sym (named_spelling v) ∙ ap named e ∙ named_spelling w)

abbrev pub Dark : ℕ → Type 0
Dark b = b ≡ 32 → ⊥

-- a spelling has no blank
no_blank : (w : Word) → list_all (λ b. not (b == 32)) (spelling w) ≡ true
no_blank Rule = refl
no_blank w = refl

dark_from : (bs : List ℕ) → list_all (λ b. not (b == 32)) bs ≡ true → All Dark bs
dark_from [] e = tt
dark_from (b ∷ bs) e = let p = and_parts _ _ e in (λ blank. true≢false (sym p.0 ∙ ap (λ c. not (c == 32)) blank), dark_from bs p.1)

pub dark_spelling : (w : Word) → All Dark (spelling w)
dark_spelling w = dark_from (spelling w) (no_blank w)
