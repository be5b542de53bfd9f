-- One number or two, and nothing behind.
use Rattle.std.proofs.Common.{refl, sym, ◌∙◌}
use Rattle.std.proofs.lemmas.Bool.{eqb-true}
use Rattle.text.proofs.Listing.{empty_of, one_of, two_of}
use Rattle.text.proofs.scanning.at_most_two.Goals as goal

pub returns-then-is_empty-2 : goal.returns-then-is_empty-2
returns-then-is_empty-2 c = (refl, one_of _ _ _ c.in_ok-first.ensures (empty_of _ (eqb-true _ 0 (sym c.is_empty-2.ensures ∙ c.if-is_empty-2.true))))

pub returns-then-is_empty-3 : goal.returns-then-is_empty-3
returns-then-is_empty-3 c = (refl, two_of _ _ _ _ _ c.in_ok-first.ensures c.in_ok-second.ensures (empty_of _ (eqb-true _ 0 (sym c.is_empty-3.ensures ∙ c.if-is_empty-3.true))))
