-- What is left of the proof that the tallies are made from nothing.
use Rattle.std.proofs.Common.{◌≡◌, ℕ, get_or, replicate, refl, inl, inr, ◌∙◌, arith}
use Rattle.std.proofs.lemmas.Bool.{cases_lt}
use Rattle.std.proofs.lemmas.List.{length-replicate, get_or-replicate, get_or_past}
use Rattle.choices.specs.declared.tally.Tally.{Tally}
use Rattle.search.specs.Groups.{nothing}
use Rattle.search.proofs.ring.number_by.Goals as goal

none : (w p e o : ℕ) → (w ≡ 0) × ((p ≡ 0) × ((e ≡ 0) × (o ≡ 0))) → record { weight = w; pans = p; empty = e; old = o } ≡ nothing
none w p e o h = rw (h.0, h.1.0, h.1.1.0, h.1.1.1) refl

blank : (n i : ℕ) (t : Tally) → (t.weight ≡ 0) × ((t.pans ≡ 0) × ((t.empty ≡ 0) × (t.old ≡ 0))) → get_or (replicate n t) i nothing ≡ nothing
blank n i t e =
    elim (cases_lt i n) [
      | inl l ↦ get_or-replicate n i t nothing l ∙ none t.weight t.pans t.empty t.old e
      | inr l ↦ get_or_past (replicate n t) i nothing (omega (arith, length-replicate n t))
    ]

pub fill-requires-clause-blank : goal.fill-requires-clause-blank
fill-requires-clause-blank g c i = blank _ i c.default-groups.result c.default-groups.ensures
