-- A choice's place in the order as one number that adds up over the pans. Assumes nothing: these are definitions.
--   by_ways      the choice opens only pans that may be opened, and leaves only young ones shut
--   place        the sum over some pans with b pans behind them: an opened pan adds its weight from bit 29 on and 1 from bit
--                24 on, a shut pan a bit of its own, which is bit k where k pans stand behind it
--   pans_in      how many opened pans a place tells of
use Rattle.std.specs.Prelude.{ℕ, ◌+◌, ◌*◌, ◌/◌, ◌%◌, ◌^◌, Bool, true, false, cond, ◌&&◌, List, [], ◌∷◌, length}
use Rattle.choices.specs.Choice.{Choice}
use Rattle.halves_places.specs.declared.way.Way.{Way}

abbrev pub by_ways : List Way → Choice → Bool
by_ways [] [] = true
by_ways [] (c ∷ cs) = false
by_ways (v ∷ vs) [] = false
by_ways (v ∷ vs) (c ∷ cs) = cond c v.opens v.young && by_ways vs cs

abbrev pub place : ℕ → List ℕ → Choice → ℕ
place b [] cs = 0
place b (w ∷ ws) [] = 0
place b (w ∷ ws) (c ∷ cs) = cond c (w * 2 ^ 29 + 2 ^ 24) (2 ^ (b + length cs)) + place b ws cs

abbrev pub pans_in : ℕ → ℕ
pans_in x = x / 2 ^ 24 % 32
