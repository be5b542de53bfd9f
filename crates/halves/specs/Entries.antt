-- How many entries the halves of so many pans take. Assumes nothing: these are definitions.
--   half_of      how many pans each half of n pans has: all but the first one or two
--   room_for     how many entries both halves of n pans take
--   before       how many pans stand before the halves
use Rattle.std.specs.Prelude.{ℕ, ◌+◌, ◌-◌, ◌/◌, ◌^◌}

abbrev pub half_of : ℕ → ℕ
half_of n = (n - 1) / 2

abbrev pub room_for : ℕ → ℕ
room_for n = 2 ^ half_of n + 2 ^ half_of n

abbrev pub before : ℕ → ℕ
before n = n - (half_of n + half_of n)
