-- What an entry answers, and how the lent pans stand afterwards, for every kind of bag. Assumes nothing: these are definitions.
--   Made       a bag was made of a stand: the best choice's number and weight, and the stand that it leaves
--   Packs      the best bag was made, or no choice whatever is allowed and nothing changed
--   Answer     why nothing is taken, or the bag, or that there is none
--   Answered   what each answer says: turned away, or packed
--   Looked     what is answered where nothing is opened
--   Kept       what is promised of every bag: nothing is lost, no pan is too old afterwards, the pans are in order
--   Keeps      the same where a bag was made
--   Promised   what is promised of every answer by a rule: that, and no stricter rule makes a lighter bag, nor one at all where
--              this rule makes none
--   Promises   the same where nothing was turned away
use Rattle.std.specs.Prelude.{◌≡◌, ℕ, ◌+◌, ◌≤◌, true, Some, None, Option, Ok, Err, Result, IsSomeAnd}
use Rattle.choices.specs.Choice.{Choice, weight_of}
use Rattle.choices.specs.Numbered.{number_of}
use Rattle.choices.specs.Stand.{Stand, InOrder, May, by_rule, left_by, total, NoneAbove, Looser}
use Rattle.choices.specs.declared.rule.Rule.{Rule}
use Rattle.order.specs.Order.{BestOf, NoneOf, Found}
use Rattle.order.specs.declared.bag.Bag.{Bag}
use Rattle.answers.specs.declared.refusal.Refusal.{Refusal}

pub record Made (may : May) (s : Stand) (pans weight : ℕ) (t : Stand) : Type 0 where
  pub choice : Choice
  pub best : BestOf (may s) s.weights choice
  pub number : pans ≡ number_of choice
  pub weighs : weight ≡ weight_of s.weights choice
  pub leaves : t ≡ left_by s choice

abbrev pub Packs : May → Stand → Option Bag → Stand → Type 0
Packs may s None t = NoneOf (may s) × (t ≡ s)
Packs may s (Some b) t = Made may s b.pans b.weight t

abbrev pub Answer : Type 0
Answer = Result (Option Bag) Refusal

abbrev pub Answered : Option Refusal → May → Stand → Answer → Stand → Type 0
Answered None may s (Ok b) t = Packs may s b t
Answered None may s (Err g) t = ⊥
Answered (Some f) may s (Ok b) t = ⊥
Answered (Some f) may s (Err g) t = (g ≡ f) × (t ≡ s)

abbrev pub Looked : Option Refusal → May → Stand → Answer → Type 0
Looked None may s (Ok b) = Found (may s) s.weights b
Looked None may s (Err g) = ⊥
Looked (Some f) may s (Ok b) = ⊥
Looked (Some f) may s (Err g) = g ≡ f

pub record Kept (age : ℕ) (s : Stand) (b : Bag) (t : Stand) : Type 0 where
  pub nothing_lost : b.weight + total t.weights ≡ total s.weights
  pub young : NoneAbove age t.ages
  pub ordered : InOrder t

abbrev pub Keeps : (age : ℕ) → Stand → Option Bag → Stand → Type 0
Keeps age s None t = Unit {0}
Keeps age s (Some b) t = Kept age s b t

pub record Promised (r : Rule) (s : Stand) (b : Option Bag) (t : Stand) : Type 0 where
  pub keeps : Keeps r.age s b t
  pub lightest : (q : Rule) (cs : Choice) → Looser q r → by_rule q s cs ≡ true → IsSomeAnd b (λ x. x.weight ≤ weight_of s.weights cs)

abbrev pub Promises : Rule → Stand → Answer → Stand → Type 0
Promises r s (Ok b) t = Promised r s b t
Promises r s (Err f) t = Unit {0}
