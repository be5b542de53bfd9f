-- How many numbers a word may take.
use Rattle.std.specs.Prelude.{ℕ, ◌%◌, Bool, true, false, ◌==◌, nat_le, nat_lt}
use Rattle.text.specs.declared.words.Count.{Count}
use Rattle.text.specs.declared.words.Count.TheVariants.{Just, Any, NoneOrOne, OneAndPairs}

-- whether n numbers are as many as may be
abbrev pub takes : Count → (n : ℕ) → Bool
takes (Just k) n = n == k
takes Any n = true
takes NoneOrOne n = nat_le n 1
takes OneAndPairs n = n % 2 == 1

-- whether there may be more than two
abbrev pub takes_many : Count → Bool
takes_many (Just k) = nat_lt 2 k
takes_many Any = true
takes_many NoneOrOne = false
takes_many OneAndPairs = true

-- whether there may be a number at all
abbrev pub takes_some : Count → Bool
takes_some (Just k) = nat_lt 0 k
takes_some Any = true
takes_some NoneOrOne = true
takes_some OneAndPairs = true
