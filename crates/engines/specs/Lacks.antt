-- What a finder with too little room turns a ring away for: refusal 5, with how much the ring takes. Assumes nothing: these are
-- definitions.
--   nothing_lacked   a finder that takes no room, or gets along with any
--   too_few_entries  of so many entries, the two halves of so many pans
--   entries_lacked   of so many entries, the two halves of a stand
use Rattle.std.specs.Prelude.{ℕ, length, None, Option}
use Rattle.answers.specs.Refusals.{lacked}
use Rattle.answers.specs.declared.refusal.Refusal.{Refusal}
use Rattle.choices.specs.Stand.{Stand}
use Rattle.choices.specs.declared.rule.Rule.{Rule}
use Rattle.halves.specs.Entries.{room_for}

abbrev pub nothing_lacked : {F : Type 0} → F → Rule → Stand → Option Refusal
nothing_lacked f r s = None

abbrev pub too_few_entries : (pans entries : ℕ) → Option Refusal
too_few_entries n = lacked (room_for n)

abbrev pub entries_lacked : Stand → (entries : ℕ) → Option Refusal
entries_lacked s = too_few_entries (length s.weights)
