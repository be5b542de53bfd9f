-- What a choice of pans is, what its bag weighs, and when it fits a rule. Assumes nothing: these are definitions.
--   Choice       for each pan, from pan 0 on, whether it is opened
--   weight_of    what lies in the opened pans together
--   opened       how many pans are opened
--   none_empty   every opened pan has something in it
--   keeps_old    every pan that has waited so many bags, or more, is opened
--   fits         a choice makes a bag by the rule
--   marked       a number of each pan, changed by whether it is opened
--   emptied      what lies in the pans after the bag
--   aged         for how many bags each pan has waited after the bag
use Rattle.std.specs.Prelude.{ℕ, ◌+◌, Bool, true, false, cond, not, ◌&&◌, ◌||◌, List, [], ◌∷◌, length, ◌==◌, nat_le, nat_lt}
use Rattle.choices.specs.declared.rule.Rule.{Rule}

abbrev pub Choice : Type 0
Choice = List Bool

abbrev pub bit : Bool → ℕ
bit true = 1
bit false = 0

abbrev pub weight_of : List ℕ → Choice → ℕ
weight_of [] cs = 0
weight_of (w ∷ ws) [] = 0
weight_of (w ∷ ws) (c ∷ cs) = cond c w 0 + weight_of ws cs

abbrev pub opened : Choice → ℕ
opened [] = 0
opened (c ∷ cs) = bit c + opened cs

abbrev pub none_empty : List ℕ → Choice → Bool
none_empty [] cs = true
none_empty (w ∷ ws) [] = true
none_empty (w ∷ ws) (c ∷ cs) = (not c || nat_le 1 w) && none_empty ws cs

abbrev pub keeps_old : ℕ → List ℕ → Choice → Bool
keeps_old old [] cs = true
keeps_old old (a ∷ as') [] = true
keeps_old old (a ∷ as') (c ∷ cs) = (c || nat_lt a old) && keeps_old old as' cs

unfoldable pub fits : Rule → (weights ages : List ℕ) → Choice → Bool
fits r ws as' cs =
    (length cs == length ws)
    && (nat_le r.target (weight_of ws cs)
    && (nat_le (weight_of ws cs) (r.target + r.above)
    && (nat_le (opened cs) r.pans
    && (none_empty ws cs && keeps_old r.age as' cs))))

abbrev pub marked : (Bool → ℕ → ℕ) → List ℕ → Choice → List ℕ
marked f [] cs = []
marked f (x ∷ xs) [] = x ∷ xs
marked f (x ∷ xs) (c ∷ cs) = f c x ∷ marked f xs cs

abbrev pub emptied : List ℕ → Choice → List ℕ
emptied = marked (λ c w. cond c 0 w)

abbrev pub aged : List ℕ → Choice → List ℕ
aged = marked (λ c a. cond c 0 (a + 1))
