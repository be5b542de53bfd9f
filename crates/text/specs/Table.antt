-- The table of the words: how each is spelled, and how many numbers it takes.
use Rattle.std.specs.Prelude.{ℕ, List, codes}
use Rattle.text.specs.declared.words.Count.{Count}
use Rattle.text.specs.declared.words.Count.TheVariants.{Just, Any, NoneOrOne}
use Rattle.text.specs.declared.words.Word.{Word}
use Rattle.text.specs.declared.words.Word.TheVariants.{Rule, Pans, Ages, Handfuls, Bag, Fall, Bags, Kinds, Mix}

abbrev pub row : Word → List ℕ × Count
row Rule = (codes "rule", Any)
row Pans = (codes "pans", Any)
row Ages = (codes "ages", Any)
row Handfuls = (codes "handfuls", Any)
row Bag = (codes "bag", Just 0)
row Fall = (codes "fall", Just 2)
row Bags = (codes "bags", Just 1)
row Kinds = (codes "kinds", Any)
row Mix = (codes "mix", NoneOrOne)

abbrev pub spelling : Word → List ℕ
spelling w = (row w).0

abbrev pub count_of : Word → Count
count_of w = (row w).1
