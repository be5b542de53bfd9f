-- What stands behind the blank is a number, or it is none.
use Rattle.std.proofs.Common.{◌≡◌, ◌-◌, ◌∷◌, length, get_or, take, drop, sym, ap, ◌∙◌, arith, rules}
use Rattle.std.proofs.lemmas.Bool.{ltb-true, ltb-false, eqb-false}
use Rattle.std.proofs.lemmas.List.{get_or-take}
use Rattle.text.proofs.Found.{after_blank, no_blank, no_number, no_digit, leading_zero, begins_at}
use Rattle.text.proofs.scanning.next.Goals as goal
use Rattle.text.proofs.scanning.next.Goals.{In-32, in_default-number-via-then-number-lt2, in_default-number-via-else-number-lt2+in_default-1}

pub returns-in_default : goal.returns-in_default
returns-in_default c = no_blank c.args.text.now (search rules)

whole : (c : In-32) → c.args.text.now ≡ 32 ∷ take (length c.args.text.now - 1) (drop 1 c.args.text.now)
whole c = after_blank c.args.text.now (search rules) (search rules)

pub returns-in-empty : goal.returns-in-empty
returns-in-empty c = λ ns e.
    no_number _ _ _ c.figures-value.ensures (no_digit _ _ _ c.figures-value.ensures (omega arith)) ns (sym (whole (goal.at.returns-in-empty c).In-32) ∙ e)

pub returns-in-48 : goal.returns-in-48
returns-in-48 c = λ ns e.
    no_number _ _ _ c.figures-value.ensures (leading_zero _ _ _ c.figures-value.ensures (omega arith) (search rules)) ns (sym (whole (goal.at.returns-in-48 c).In-32) ∙ e)

pub returns-in_default-number : goal.returns-in_default-number
returns-in_default-number c =
    begins_at _ _ _ c.figures-value.ensures (omega (arith, ltb-false))
    (λ zero. elim c.in_default-number.branch [
      | in_default-number-via-then-number-lt2 w ↦ omega (arith, ltb-true, ltb-false)
      | in_default-number-via-else-number-lt2+in_default-1 w ↦
          let first = ap (λ l. get_or l 0 0) c.split_at.ensures.front ∙ get_or-take c.figures-value.result.1 _ 0 0 (omega (arith, ltb-false)) ∙ zero in
          omega (arith, first, eqb-false)
    ])
    c.args.text.now c.split_at.result.1.now (whole (goal.at.returns-in_default-number c).In-32) c.split_at.ensures.back
