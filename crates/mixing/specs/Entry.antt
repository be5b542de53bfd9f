-- What is promised of a bag with so much of each kind. Assumes nothing: these are definitions.
--   MixPromised      of every answer: what is promised of every bag; of no kind a gram too little or too much lies in it; no
--                    stricter rule with narrower windows makes a lighter one, nor one at all where there is none; and there is
--                    none where a kind has a least above its most
--   MixPromises      the same where nothing was turned away
--   AsWithoutKinds   with one kind, kind 0 in each pan, of which as little may be as the target and as much as the most that
--                    a bag may weigh, the answer and what is left are what they are by the four numbers alone
use Rattle.std.specs.Prelude.{◌≡◌, ℕ, ◌+◌, ◌<◌, ◌≤◌, true, List, [], ◌∷◌, length, None, Option, Ok, Err, IfSome, IsSomeAnd, replicate, slice_index_or}
use Rattle.choices.specs.Choice.{Choice, weight_of}
use Rattle.choices.specs.Numbered.{choice_from}
use Rattle.choices.specs.Ruled.{rule_in}
use Rattle.choices.specs.Stand.{Stand, by_rule, Looser}
use Rattle.choices.specs.declared.limits.TheConstants.{LIMIT}
use Rattle.choices.specs.declared.rule.Rule.{Rule}
use Rattle.kinds.specs.Kinds.{no_window, SoMuchOfEach, Wider}
use Rattle.kinds.specs.declared.mixed.Window.{Window}
use Rattle.mixing.specs.Windows.{mixed_by}
use Rattle.order.specs.declared.bag.Bag.{Bag}
use Rattle.packing.specs.Entry.{Answer, Answered, Keeps}
use Rattle.packing.specs.Refusals.{first_refusal}

pub record MixPromised (r : Rule) (vs : List Window) (ks : List ℕ) (s : Stand) (b : Option Bag) (t : Stand) : Type 0 where
  pub keeps : Keeps r.age s b t
  pub each : IfSome b (λ x. SoMuchOfEach vs ks s.weights (choice_from (length s.weights) x.pans))
  pub lightest :
      (q : Rule) (us : List Window) (cs : Choice) → Looser q r → Wider us vs → mixed_by q us ks s cs ≡ true →
      IsSomeAnd b (λ x. x.weight ≤ weight_of s.weights cs)
  pub never : (k : ℕ) → k < length vs → (slice_index_or vs k no_window).most < (slice_index_or vs k no_window).least → b ≡ None

abbrev pub MixPromises : Rule → List Window → (kinds : List ℕ) → Stand → Answer → Stand → Type 0
MixPromises r vs ks s (Ok b) t = MixPromised r vs ks s b t
MixPromises r vs ks s (Err f) t = Unit {0}

abbrev pub AsWithoutKinds : (rule kinds : List ℕ) → Stand → Answer → Stand → Type 0
AsWithoutKinds rs ks s d t =
    (target above pans age least most : ℕ) → rs ≡ target ∷ above ∷ pans ∷ age ∷ least ∷ most ∷ [] →
    ks ≡ replicate (length s.weights) 0 →
    least ≤ target → target + above ≤ most → most ≤ LIMIT → (e : Answer) (u : Stand) →
    Answered (first_refusal 4 (target ∷ above ∷ pans ∷ age ∷ []) s) (by_rule (rule_in (target ∷ above ∷ pans ∷ age ∷ []))) s e u →
    (d ≡ e) × (t ≡ u)
