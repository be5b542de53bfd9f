-- How long lent rooms are. Assumes nothing: this is a definition.
--   rooms_size   how many words, and how many entries
use Rattle.std.specs.Prelude.{ℕ, List, [], ◌∷◌, length}
use Rattle.mixing.specs.declared.rooms.MixRooms.{MixRooms}

abbrev pub rooms_size : MixRooms → List ℕ
rooms_size r = length r.keys.now ∷ length r.entries.now ∷ []
