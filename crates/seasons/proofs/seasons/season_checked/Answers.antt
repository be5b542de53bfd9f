-- What is left of the proof of what a season is turned away for: nothing is wrong.
use Rattle.std.proofs.Common.{◌*◌, length, sym}
use Rattle.std.proofs.lemmas.Bool.{le-leb}
use Rattle.choices.specs.declared.limits.TheConstants.{LIMIT}
use Rattle.seasons.specs.declared.limits.TheConstants.{LONGEST}
use Rattle.packing.proofs.Refused.{none_above, passed_as}
use Rattle.seasons.proofs.seasons.season_checked.Goals as goal

pub returns : goal.returns
returns c =
    let handfuls = sym c.in_default.ensures in
    let value = c.in_ok-rule.ensures.value in
    let none = (passed_as _ _ _ value).0 in
    record {
      value = rw (none, handfuls, le-leb c.args.bags LONGEST c.if-bags-gt-LONGEST.false) (rw none at value);
      taken = c.in_ok-rule.ensures.taken;
      small = none_above LIMIT (2 * length c.args.weights.now) c.args.handfuls.now handfuls;
      few = c.if-bags-gt-LONGEST.false;
    }
