-- What is left of the proof that a mixed bag is made, and of what is promised of it.
use Rattle.choices.specs.Ruled.{rule_in}
use Rattle.choices.specs.Stand.{stand}
use Rattle.mixing.specs.Refusals.{mix_refusal}
use Rattle.mixing.specs.Windows.{mixed_by, windows_in}
use Rattle.mixing.proofs.OneKind.{as_without_kinds}
use Rattle.mixing.proofs.Promised.{mix_promised, packs_by, refused_so}
use Rattle.packing.proofs.Refused.{passed_as}
use Rattle.mixing.proofs.entry.mix.Goals as goal

pub returns-in_err-whole-clause-one_kind : goal.returns-in_err-whole-clause-one_kind
returns-in_err-whole-clause-one_kind c =
    let rs = c.args.rule.now in
    let ks = c.args.kinds.now in
    let s = stand c.args.weights.now c.args.ages.now in
    let h = refused_so (mix_refusal rs s ks) (mixed_by (rule_in rs) (windows_in rs) ks) _ _ c.from_residual.result s c.in_err-whole.ensures.value c.from_residual.ensures.1 in
    as_without_kinds rs ks s c.from_residual.result s h

pub returns-clause-promises : goal.returns-clause-promises
returns-clause-promises c =
    let rs = c.args.rule.now in
    let s = stand c.args.weights.now c.args.ages.now in
    let is = c.mix_of-kind.ensures.same in
    mix_promised (rule_in rs) (windows_in rs) c.args.kinds.now s _ c.pack.result (rw is.rule at c.pack.ensures.keeps) (packs_by _ s _ _ is c.pack.ensures.bag)

pub returns-clause-one_kind : goal.returns-clause-one_kind
returns-clause-one_kind c =
    let rs = c.args.rule.now in
    let ks = c.args.kinds.now in
    let s = stand c.args.weights.now c.args.ages.now in
    let none = (passed_as (mix_refusal rs s ks) _ _ c.in_ok-whole.ensures.value).0 in
    as_without_kinds rs ks s _ _ (rw none (packs_by _ s c.pack.result _ c.mix_of-kind.ensures.same c.pack.ensures.bag))
