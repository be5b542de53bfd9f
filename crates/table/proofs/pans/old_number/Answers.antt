-- What is left of the proof of the number of the old pans.
use Rattle.std.proofs.Common.{sym, ◌∙◌}
use Rattle.table.proofs.OldNumber.{none_old}
use Rattle.table.proofs.pans.old_number.Goals as goal

pub returns-then-old_count-eq0 : goal.returns-then-old_count-eq0
returns-then-old_count-eq0 c = sym (none_old c.args.ring.rule.age c.args.ring.ages.now (sym c.requires ∙ c.if-old_count-eq0.true))
