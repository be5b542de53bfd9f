-- The pans as they stand, and what is known of numbers that passed their checks. Assumes nothing: these are definitions.
--   Stand        what lies in each pan, and for how many bags each has waited
--   stand        the stand of two lists
--   InOrder      1 to 24 pans, an age for each, no weight and no age above 1,000,000
--   RuleWithin   a target of at least 1, and no number of the rule above a limit
--   May          which choices are allowed of each stand
--   by_rule      those that fit a rule
--   Allowed      what is known of every choice that is allowed, by whatever kind of bag: it opens no empty pan and every old
--                one, and its bag is not below a least weight and not above a top weight
--   left_by      the stand that a choice leaves: opened pans are empty and of age 0, all others a bag older
--   total        what lies in the pans together
--   NoneAbove        no pan has waited for more bags than so many
--   Looser       the second rule allows all that the first does: its target is no higher, its target + above no lower, its
--                pans no fewer, its age no lower
use Rattle.std.specs.Prelude.{◌≡◌, ℕ, ◌+◌, ◌≤◌, Bool, true, List, [], ◌∷◌, length, slice_index}
use Rattle.choices.specs.Choice.{Choice, weight_of, none_empty, keeps_old, fits, emptied, aged}
use Rattle.choices.specs.declared.rule.Rule.{Rule}
use Rattle.choices.specs.declared.limits.TheConstants.{LIMIT, PANS}

pub record Stand : Type 0 where
  pub weights : List ℕ
  pub ages : List ℕ

abbrev pub stand : (weights ages : List ℕ) → Stand
stand ws as' = record { weights = ws; ages = as' }

pub record InOrder (s : Stand) : Type 0 where
  pub present : 1 ≤ length s.weights
  pub few : length s.weights ≤ PANS
  pub paired : length s.ages ≡ length s.weights
  pub light : (i : ℕ) → slice_index s.weights i ≤ LIMIT
  pub young : (i : ℕ) → slice_index s.ages i ≤ LIMIT

pub record RuleWithin (limit : ℕ) (r : Rule) : Type 0 where
  pub some : 1 ≤ r.target
  pub target : r.target ≤ limit
  pub above : r.above ≤ limit
  pub pans : r.pans ≤ limit
  pub age : r.age ≤ limit

abbrev pub May : Type 0
May = Stand → Choice → Bool

abbrev pub by_rule : Rule → May
by_rule r s = fits r s.weights s.ages

pub record Allowed (age least top : ℕ) (s : Stand) (cs : Choice) : Type 0 where
  pub whole : length cs ≡ length s.weights
  pub filled : none_empty s.weights cs ≡ true
  pub old : keeps_old age s.ages cs ≡ true
  pub enough : least ≤ weight_of s.weights cs
  pub within : weight_of s.weights cs ≤ top

abbrev pub left_by : Stand → Choice → Stand
left_by s cs = stand (emptied s.weights cs) (aged s.ages cs)

abbrev pub total : List ℕ → ℕ
total [] = 0
total (w ∷ ws) = w + total ws

abbrev pub NoneAbove : ℕ → List ℕ → Type 0
NoneAbove age as' = (i : ℕ) → slice_index as' i ≤ age

pub record Looser (r q : Rule) : Type 0 where
  pub lighter : q.target ≤ r.target
  pub heavier : r.target + r.above ≤ q.target + q.above
  pub more : r.pans ≤ q.pans
  pub older : r.age ≤ q.age
