-- A kind of bag that makes up for what the last bag weighed above the target, and that it is lawful.
--   lowered          the rule for the next bag: a lower target, and as much above it as reaches the same top
--   allowed_by       what fits that rule
--   made_up          the kind after a bag: the next one may be below the target by what this one was above it
--   makes_up_ready   no number of the rule is above 1,000,000, and a bag weighs something
use Rattle.std.specs.Prelude.{◌≡◌, ℕ, ◌+◌, ◌-◌, ◌*◌, ◌≤◌, min, max, true, refl}
use Rattle.std.proofs.Common.{zero-le, le_trans, le_of_eq, le-add_right, add-sub_of_le}
use Rattle.std.proofs.Math.Nat.{min-le_left, le-min, le-max_right}
use Rattle.choices.specs.Choice.{Choice, weight_of}
use Rattle.choices.specs.Stand.{Stand, May, Allowed, by_rule, RuleWithin}
use Rattle.choices.specs.declared.rule.Rule.{Rule}
use Rattle.choices.specs.declared.limits.TheConstants.{LIMIT}
use Rattle.choices.proofs.Choices.{fits_allowed, fits_opens}
use Rattle.engines.specs.Kinds.{Lawful}
use Rattle.trials.specs.declared.makes_up.MakesUp.{MakesUp}

abbrev pub age_of : MakesUp → ℕ
age_of k = k.rule.age

abbrev pub least_of : MakesUp → ℕ
least_of k = 0

abbrev pub top_of : MakesUp → ℕ
top_of k = k.rule.target + k.rule.above

abbrev pub lowered : MakesUp → Rule
lowered k =
    let target = min k.rule.target k.low in
    record { target = target; above = k.rule.target + k.rule.above - target; pans = k.rule.pans; age = k.rule.age }

abbrev pub allowed_by : MakesUp → May
allowed_by k = by_rule (lowered k)

abbrev pub made_up : MakesUp → (weight : ℕ) → MakesUp
made_up k w = record { rule = k.rule; low = max (2 * k.rule.target - w) 1 }

pub record Ready (k : MakesUp) : Type 0 where
  pub ruled : RuleWithin LIMIT k.rule
  pub some : 1 ≤ k.low

abbrev pub makes_up_ready : MakesUp → (pans bags : ℕ) → Type 0
makes_up_ready k n m = Ready k

makes_up_sound : (k : MakesUp) (s : Stand) (cs : Choice) → allowed_by k s cs ≡ true → Allowed (age_of k) (least_of k) (top_of k) s cs
makes_up_sound k s cs h =
    let t = k.rule.target in
    let f = fits_allowed (lowered k) s cs h in
    let same : min t k.low + (t + k.rule.above - min t k.low) ≡ t + k.rule.above =
    add-sub_of_le (le_trans (min-le_left t k.low) (le-add_right t k.rule.above)) in
    record { whole = f.whole; filled = f.filled; old = f.old; enough = zero-le; within = le_trans f.within (le_of_eq same) }

pub makes_up_lawful : Lawful allowed_by age_of least_of top_of made_up makes_up_ready
makes_up_lawful =
    record {
      sound = makes_up_sound;
      opens = λ k s cs ready h. fits_opens (lowered k) s cs (le-min ready.ruled.some ready.some) h;
      old = λ k n m ready. ready.ruled.age;
      one = λ k n m ready. ready;
      goes_on = λ k s cs m ready h. record { ruled = ready.ruled; some = le-max_right (2 * k.rule.target - weight_of s.weights cs) 1 };
      same_age = λ k w. refl;
      same_least = λ k w. refl;
      same_top = λ k w. refl;
    }
