-- A rule in numbers. Assumes nothing: this is a definition.
use Rattle.std.specs.Prelude.{ℕ, List, slice_index}
use Rattle.choices.specs.declared.rule.Rule.{Rule}

-- target, above, pans, age
abbrev pub rule_in : List ℕ → Rule
rule_in rs = record { target = slice_index rs 0; above = slice_index rs 1; pans = slice_index rs 2; age = slice_index rs 3 }
