-- The laws of the order of choices, as statements.
--   SameChoices      two tests allow the same choices, and what is allowed weighs the same by both lists of weights
--   OneIsBetter      of two choices of one length that differ one is better, and not the other
--   BetterGoesOn     what is better than a better one is better
--   BestIsOne        whatever is allowed of one ring, at most one choice is best
--   FoundCarriesOver what a search finds is found wherever the same choices are allowed and weigh the same
--   BestOfMore       the best of all that a wider test allows is the best by a narrower one that allows it too
--   NoneOfMore       where the wider test allows nothing, neither does the narrower one
--   FoundOfMore      the bag found by a wider test is what a narrower one finds, if that allows the choice of its number
use Rattle.std.specs.Prelude.{◌≡◌, ℕ, Bool, true, false, ◌⊎◌, List, length, Some, Option}
use Rattle.choices.specs.Choice.{Choice, weight_of}
use Rattle.choices.specs.Numbered.{choice_from}
use Rattle.order.specs.Order.{better, BestOf, NoneOf, Found}
use Rattle.order.specs.declared.bag.Bag.{Bag}

pub record SameChoices (may may' : Choice → Bool) (ws ws' : List ℕ) : Type 0 where
  pub same : (cs : Choice) → may cs ≡ may' cs
  pub weighs : (cs : Choice) → may cs ≡ true → weight_of ws cs ≡ weight_of ws' cs

abbrev pub OneIsBetter : Type 0
OneIsBetter =
    (ws : List ℕ) (cs ds : Choice) → length cs ≡ length ds →
    ((cs ≡ ds) ⊎ ((better ws cs ds ≡ true) ⊎ (better ws ds cs ≡ true)))
    × (better ws cs ds ≡ true → better ws ds cs ≡ false)

abbrev pub BetterGoesOn : Type 0
BetterGoesOn =
    (ws : List ℕ) (cs ds es : Choice) → length cs ≡ length ds → length ds ≡ length es →
    better ws cs ds ≡ true → better ws ds es ≡ true → better ws cs es ≡ true

abbrev pub BestIsOne : Type 0
BestIsOne =
    (may : Choice → Bool) (ws : List ℕ) (n : ℕ) → ((cs : Choice) → may cs ≡ true → length cs ≡ n) →
    (cs ds : Choice) → BestOf may ws cs → BestOf may ws ds → cs ≡ ds

abbrev pub FoundCarriesOver : Type 0
FoundCarriesOver =
    (may may' : Choice → Bool) (ws ws' : List ℕ) (o : Option Bag) → SameChoices may may' ws ws' → Found may ws o → Found may' ws' o

abbrev pub BestOfMore : Type 0
BestOfMore =
    (may less : Choice → Bool) (ws : List ℕ) (cs : Choice) → ((ds : Choice) → less ds ≡ true → may ds ≡ true) →
    BestOf may ws cs → less cs ≡ true → BestOf less ws cs

abbrev pub NoneOfMore : Type 0
NoneOfMore =
    (may less : Choice → Bool) → ((ds : Choice) → less ds ≡ true → may ds ≡ true) → NoneOf may → NoneOf less

abbrev pub FoundOfMore : Type 0
FoundOfMore =
    (may less : Choice → Bool) (ws : List ℕ) (n : ℕ) (b : Bag) →
    ((ds : Choice) → less ds ≡ true → may ds ≡ true) → ((ds : Choice) → may ds ≡ true → length ds ≡ n) →
    Found may ws (Some b) → less (choice_from n b.pans) ≡ true → Found less ws (Some b)
