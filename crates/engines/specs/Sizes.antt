-- How long lent rooms are. Assumes nothing: this is a definition.
--   rooms_size   how many entries, and how many bytes
use Rattle.std.specs.Prelude.{ℕ, List, [], ◌∷◌, length}
use Rattle.engines.specs.declared.rooms.Rooms.{Rooms}

abbrev pub rooms_size : Rooms → List ℕ
rooms_size r = length r.entries.now ∷ length r.bytes.now ∷ []
