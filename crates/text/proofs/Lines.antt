-- A line as a word and the numbers behind it.
use Rattle.std.proofs.Common.{◌≡◌, ℕ, ◌+◌, ◌<◌, ◌≤◌, false, true≢false, IsTrue, List, ◌∷◌, ◌++◌, map, length, get_or, take, drop, Err, sym, refl, ap, ◌∙◌, subst, ⊎_elim, arith, take-append-drop}
use Rattle.std.proofs.ByRecursion.{All-from_get_or}
use Rattle.std.proofs.lemmas.List.{length-map, get_or-take, length-take-le, drop_more, drop_all}
use Rattle.std.proofs.lemmas.Bool.{cases_lt}
use Rattle.text.specs.declared.commands.Command.{Command}
use Rattle.text.specs.declared.faults.Fault.{Fault}
use Rattle.text.specs.declared.faults.Fault.TheVariants.{Unreadable, NoMemory}
use Rattle.text.specs.declared.words.Count.{Count}
use Rattle.text.specs.declared.words.Word.{Word}
use Rattle.text.specs.Counts.{takes}
use Rattle.text.specs.Held.{numbers_in}
use Rattle.text.specs.Reading.{Passed, Says, Unwritten, Behind, Reads}
use Rattle.text.specs.Scanning.{capped}
use Rattle.text.specs.Table.{spelling, count_of}
use Rattle.text.specs.Written.{spaced, written}
use Rattle.text.proofs.Cuts.{Outside, same_cut, cut_at}
use Rattle.text.proofs.Found.{outside_spaced, same_spaced}
use Rattle.text.proofs.Rows.{Dark, dark_spelling, same_word}

no_dark_spaced : (ns : List ℕ) → Outside Dark (spaced ns)
no_dark_spaced = outside_spaced Dark (λ other. other refl)

-- a line is written in one way
same_line : (v w : Word) (ms ns : List ℕ) → written v ms ≡ written w ns → (v ≡ w) × (ms ≡ ns)
same_line v w ms ns e =
    let r = same_cut Dark (spelling v) (spelling w) (spaced ms) (spaced ns) (dark_spelling v) (dark_spelling w) (no_dark_spaced ms) (no_dark_spaced ns) e in
    (same_word v w r.0, same_spaced ms ns r.1)

pub same_said : (line : List ℕ) (c d : Command) → line ≡ written c.word (numbers_in c.numbers) → map capped (numbers_in c.numbers) ≡ numbers_in c.numbers → Says line d → (d.word ≡ c.word) × (numbers_in d.numbers ≡ numbers_in c.numbers)
same_said line c d is whole says =
    let r = same_line d.word c.word says.numbers (numbers_in c.numbers) (sym says.line ∙ is) in
    (r.0, says.kept ∙ ap (map capped) r.1 ∙ whole)

-- so many numbers as are kept are not what the word takes
pub not_so_many : (c : Count) (text xs ms : List ℕ) → text ≡ spaced ms → xs ≡ map capped ms → takes c (length xs) ≡ false → (ns : List ℕ) → IsTrue (takes c (length ns)) → text ≡ spaced ns → ⊥
not_so_many c text xs ms is kept not_so ns taken e =
    true≢false (sym taken ∙ ap (takes c) (sym (ap length kept ∙ length-map ms capped ∙ ap length (same_spaced ms ns (sym is ∙ e)))) ∙ not_so)

-- line has its first blank at end, or none
pub record FirstBlank (line : List ℕ) (end : ℕ) : Type 0 where
  pub within : end ≤ length line
  pub before : (k : ℕ) → k < end → get_or line k 0 ≡ 32 → ⊥
  pub found : end < length line → get_or line end 0 ≡ 32

module _ (line : List ℕ) (end : ℕ) (b : FirstBlank line end) where
  cut_word : (w : Word) (ns : List ℕ) → line ≡ written w ns → (take end line ≡ spelling w) × (drop end line ≡ spaced ns)
  cut_word w ns e =
      cut_at Dark line (spelling w) (spaced ns) end
      (All-from_get_or Dark (take end line) 0 (λ i lt blank. let inside : i < end = omega (arith, length-take-le end line b.within) in b.before i inside (sym (get_or-take end line i 0 inside) ∙ blank)))
      (λ lt other. other (b.found lt)) (dark_spelling w) (no_dark_spaced ns) e

  pub no_word : ((w : Word) → take end line ≡ spelling w → ⊥) → Unwritten line
  no_word none w ns takes e = none w (cut_word w ns e).0

  module _ (word : Word) (spelled : take end line ≡ spelling word) where
    no_numbers : ((ns : List ℕ) → IsTrue (takes (count_of word) (length ns)) → drop end line ≡ spaced ns → ⊥) → Unwritten line
    no_numbers none w ns taken e =
        let r = cut_word w ns e in
        none ns (subst (λ v. IsTrue (takes (count_of v) (length ns))) (same_word w word (sym r.0 ∙ spelled)) taken) r.1

    -- why the numbers behind the word were not read
    pub unread : (text : List ℕ) → text ≡ drop end line → (Passed line → ⊥) → (f : Fault) → Behind (count_of word) text (Err f) → Reads line (Err f)
    unread text behind other Unreadable none = (other, no_numbers (λ ns taken e. none ns taken (behind ∙ e)))
    unread text behind other NoMemory asked =
        let inside : end < length line = ⊎_elim (λ lt. lt) (λ past. absurd (asked.1 (behind ∙ drop_all end line past))) (cases_lt end (length line)) in
        (word, asked.0, (drop (end + 1) line, sym (take-append-drop end line) ∙ (λ i. spelled i ++ (drop_more line end 0 inside ∙ ap (λ b. b ∷ drop (end + 1) line) (b.found inside)) i)))
