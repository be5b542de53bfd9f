-- The numbers of a command, and how they are held.
use Rattle.std.specs.Prelude.{ℕ, Bool, true, false, List, [], vec_items}
use Rattle.text.specs.declared.commands.Numbers.{Numbers}
use Rattle.text.specs.declared.commands.Numbers.TheVariants.{Zero, One, Two, Many}

abbrev pub numbers_in : Numbers → List ℕ
numbers_in Zero = []
numbers_in (One ns) = ns
numbers_in (Two ns) = ns
numbers_in (Many v) = vec_items v

-- whether they stand in memory that was asked for
abbrev pub is_many : Numbers → Bool
is_many Zero = false
is_many (One ns) = false
is_many (Two ns) = false
is_many (Many v) = true
