-- Worked examples, as statements about the definitions.
use Rattle.std.specs.Prelude.{◌≡◌, ℕ, true, false, List, [], ◌∷◌}
use Rattle.choices.specs.Choice.{weight_of, fits}
use Rattle.choices.specs.declared.rule.Rule.{Rule}
use Rattle.order.specs.Order.{BestOf, NoneOf}

abbrev pub rule : (target above pans age : ℕ) → Rule
rule t a p o = record { target = t; above = a; pans = p; age = o }

abbrev pub zeros : List ℕ
zeros = 0 ∷ 0 ∷ 0 ∷ 0 ∷ []

abbrev pub halves : List ℕ
halves = 50 ∷ 50 ∷ 50 ∷ 0 ∷ []

abbrev pub tens : List ℕ
tens = 10 ∷ 20 ∷ 30 ∷ 10 ∷ []

abbrev pub gap : List ℕ
gap = 10 ∷ 20 ∷ 30 ∷ 0 ∷ []

-- of three equal pairs the one that opens the first pans; the empty pan stays shut
abbrev pub FirstPair : Type 0
FirstPair = BestOf (fits (rule 100 10 4 9) halves zeros) halves (true ∷ true ∷ false ∷ false ∷ []) × (weight_of halves (true ∷ true ∷ false ∷ false ∷ []) ≡ 100)

-- of equal weights the one with fewer pans
abbrev pub FewerPans : Type 0
FewerPans = BestOf (fits (rule 30 5 3 9) tens zeros) tens (false ∷ false ∷ true ∷ false ∷ []) × (weight_of tens (false ∷ false ∷ true ∷ false ∷ []) ≡ 30)

-- a pan that is empty and old can't be opened and has to be, so nothing fits
abbrev pub EmptyAndOld : Type 0
EmptyAndOld = NoneOf (fits (rule 30 50 4 2) gap (0 ∷ 0 ∷ 0 ∷ 2 ∷ []))
