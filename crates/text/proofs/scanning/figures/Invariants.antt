-- The digits so far, and what they write.
use Rattle.std.proofs.Common.{◌≡◌, take}
use Rattle.std.specs.Str.Parse.{AllDigits, digits_value}
use Rattle.text.specs.Scanning.{capped}
use Rattle.text.proofs.scanning.figures.Given as goal

abbrev pub invariant-loop-i : goal.invariant-loop-i
invariant-loop-i l = AllDigits 10 (take l.i l.bytes) × (l.value ≡ capped (digits_value 10 (take l.i l.bytes)))
