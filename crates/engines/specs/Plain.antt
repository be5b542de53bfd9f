-- The plain kind of bag, a rule's. Assumes nothing: these are definitions.
--   age_of       from which age on a pan has to be opened
--   least_of     the least that a bag may weigh
--   top_of       the most that a bag may weigh
--   same_rule    a bag does not change the rule
--   rule_ready   no number of the rule is above 1,000,000, whatever the pans and the bags
use Rattle.std.specs.Prelude.{ℕ, ◌+◌}
use Rattle.choices.specs.Stand.{RuleWithin}
use Rattle.choices.specs.declared.rule.Rule.{Rule}
use Rattle.choices.specs.declared.limits.TheConstants.{LIMIT}

abbrev pub age_of : Rule → ℕ
age_of r = r.age

abbrev pub least_of : Rule → ℕ
least_of r = r.target

abbrev pub top_of : Rule → ℕ
top_of r = r.target + r.above

abbrev pub same_rule : Rule → (weight : ℕ) → Rule
same_rule r w = r

abbrev pub rule_ready : Rule → (pans bags : ℕ) → Type 0
rule_ready r n m = RuleWithin LIMIT r
