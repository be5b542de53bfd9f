-- The lines of an input. Assumes nothing: these are definitions.
--   lines_of   the lines of some bytes, each without the line feed that ends it; the last may have none
--   Left       the input began with these lines, and what is left of it are the lines behind them, where its bytes are known
--   Whole      the whole input is these lines, where its bytes are known
--   FeedCut    the line feed that a line ends with was taken away, or there is none
--   NextLine   one line was taken, or none where the input is at its end
use Rattle.std.specs.Prelude.{◌≡◌, ◌≢◌, ◌⊎◌, ℕ, Bool, true, false, List, [], ◌∷◌, ◌++◌, ⊤, Some, None, Ok, Err, Option, Result, if◌then◌else◌, ◌==◌}

-- a byte in front of the first line
abbrev pub onto_first : ℕ → List (List ℕ) → List (List ℕ)
onto_first b [] = (b ∷ []) ∷ []
onto_first b (l ∷ ls) = (b ∷ l) ∷ ls

abbrev pub lines_of : List ℕ → List (List ℕ)
lines_of [] = []
lines_of (b ∷ bs) = if b == 10 then [] ∷ lines_of bs else onto_first b (lines_of bs)

abbrev pub Left : (input rest : Option (List ℕ)) → List (List ℕ) → Type 0
Left None rest lines = ⊤
Left (Some bs) None lines = ⊥
Left (Some bs) (Some cs) lines = lines_of bs ≡ lines ++ lines_of cs

abbrev pub Whole : (input : Option (List ℕ)) → List (List ℕ) → Type 0
Whole None lines = ⊤
Whole (Some bs) lines = lines_of bs ≡ lines

abbrev pub FeedCut : (before after : List ℕ) → Type 0
FeedCut before after = (before ≡ after ++ 10 ∷ []) ⊎ ((after ≡ before) × ((front : List ℕ) → before ≢ front ++ 10 ∷ []))

abbrev pub NextLine : {E : Type 0} → (input rest : Option (List ℕ)) → (line : List ℕ) → Result Bool E → Type 0
NextLine input rest line (Ok true) = Left input rest (line ∷ [])
NextLine input rest line (Ok false) = Whole input []
NextLine input rest line (Err e) = ⊤
