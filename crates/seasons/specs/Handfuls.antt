-- Handfuls that fall from a list into empty pans. Assumes nothing: these are definitions.
--   on        the place after a place of the list, its start again where the list is used up
--   hands     so many handfuls of the list, in turn from a place on
--   place     the place after so many
--   empties   how many pans are empty
--   filled    handfuls in turn into the empty pans, in the order of the pans' numbers
use Rattle.std.specs.Prelude.{ℕ, zero, suc, ◌+◌, ◌%◌, List, [], ◌∷◌, length, slice_index}

abbrev pub on : List ℕ → ℕ → ℕ
on [] i = i
on (h ∷ hs) i = (i + 1) % suc (length hs)

abbrev pub hands : List ℕ → (from many : ℕ) → List ℕ
hands hs i zero = []
hands hs i (suc n) = slice_index hs i ∷ hands hs (on hs i) n

abbrev pub place : List ℕ → (from many : ℕ) → ℕ
place hs i zero = i
place hs i (suc n) = place hs (on hs i) n

abbrev pub empties : List ℕ → ℕ
empties [] = 0
empties (zero ∷ ws) = suc (empties ws)
empties (suc w ∷ ws) = empties ws

abbrev pub filled : (weights handfuls : List ℕ) → List ℕ
filled [] ps = []
filled (zero ∷ ws) [] = 0 ∷ filled ws []
filled (zero ∷ ws) (p ∷ ps) = p ∷ filled ws ps
filled (suc w ∷ ws) ps = suc w ∷ filled ws ps
