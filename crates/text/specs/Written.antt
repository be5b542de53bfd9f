-- How a line is written: a word, and its numbers in decimal, each after a blank.
use Rattle.std.specs.Prelude.{ℕ, ◌+◌, cond, List, [], ◌∷◌, ◌++◌, map, codes, ◌==◌}
use Rattle.std.specs.Int.Digits.{digits_of}
use Rattle.text.specs.declared.words.Word.{Word}
use Rattle.text.specs.Table.{spelling}

-- a number of any size in decimal: `0`, or digits that don't begin with one
unfoldable pub numeral : ℕ → List ℕ
numeral n = cond (n == 0) (codes "0") (map (λ d. 48 + d) (digits_of 10 n))

-- each number after its blank
abbrev pub spaced : List ℕ → List ℕ
spaced [] = []
spaced (n ∷ ns) = 32 ∷ (numeral n ++ spaced ns)

abbrev pub written : Word → List ℕ → List ℕ
written w ns = spelling w ++ spaced ns
