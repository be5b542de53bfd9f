-- What is promised of a bag with so much of each kind.
use Rattle.std.proofs.Common.{◌≡◌, ℕ, ◌<◌, ◌≤◌, true, List, length, get_or, Some, None, Option, Ok, Err, sym, refl, ◌∙◌, ap₂, arith}
use Rattle.std.proofs.lemmas.Bool.{both_ways}
use Rattle.std.specs.Prelude.{IfSome, IsErrAnd, IsSomeAnd}
use Rattle.answers.specs.Refusals.{passed}
use Rattle.answers.specs.declared.refusal.Refusal.{Refusal}
use Rattle.choices.specs.Choice.{Choice, weight_of}
use Rattle.choices.specs.Numbered.{choice_from}
use Rattle.choices.specs.Ruled.{rule_in}
use Rattle.choices.specs.Stand.{Stand, May, Looser}
use Rattle.choices.specs.declared.rule.Rule.{Rule}
use Rattle.choices.proofs.Numbers.{choice_from_number}
use Rattle.kinds.specs.Kinds.{no_window, SoMuchOfEach, Wider}
use Rattle.kinds.specs.declared.mixed.Window.{Window}
use Rattle.kinds.proofs.Mixing.{mixing, none_between, wider_mixes}
use Rattle.mixing.specs.Entry.{MixPromised}
use Rattle.mixing.specs.Kind.{mix_allows, IsMix, MixReady}
use Rattle.mixing.specs.Refusals.{many, Mixable}
use Rattle.mixing.specs.Windows.{mixed_by, windows_in}
use Rattle.mixing.specs.declared.kind.Mix.{Mix}
use Rattle.order.specs.declared.bag.Bag.{Bag}
use Rattle.order.proofs.Orders.{no_lighter}
use Rattle.packing.specs.Entry.{Answer, Answered, Keeps, Packs}
use Rattle.packing.proofs.Refused.{within}

-- a kind of bag of accepted numbers is ready for any bag
pub ready_by : {rs : List ℕ} {s : Stand} {ks : List ℕ} (k : Mix) → Mixable rs s ks → IsMix rs ks k → k.many ≡ many rs → MixReady k (length s.weights)
ready_by k a is e =
    record {
      ruled = rw is.rule (within a.accepted);
      some = rw e a.some;
      few = rw e a.few;
      paired = rw is.kinds a.paired;
      known = rw (is.kinds, e) a.known;
    }

-- what it packs is packed by the rule in numbers
pub packs_by : {rs ks : List ℕ} (k : Mix) (s : Stand) (b : Option Bag) (t : Stand) → IsMix rs ks k → Packs (mix_allows k) s b t → Packs (mixed_by (rule_in rs) (windows_in rs) ks) s b t
packs_by k s b t is h = rw (is.rule, is.windows, is.kinds) at h

-- what is turned away is answered, and nothing changes
pub refused_so :
    (o : Option Refusal) (may : May) (x : Rule) (f : Refusal) (d : Answer) (s : Stand) → Err f ≡ passed o x → IsErrAnd d (λ g. g ≡ f) → Answered o may s d s
refused_so None may x f d s e h = absurd (let z : ◌≡◌ {A = ℕ} 0 1 = cc in omega arith)
refused_so (Some g) may x f (Ok b) s e h = absurd h
refused_so (Some g) may x f (Err y) s e h = (h ∙ cc, refl)

module _ (r : Rule) (vs : List Window) (ks : List ℕ) (s t : Stand) where
  each_by : (b : Option Bag) → Packs (mixed_by r vs ks) s b t → IfSome b (λ x. SoMuchOfEach vs ks s.weights (choice_from (length s.weights) x.pans))
  each_by None m = tt
  each_by (Some b) m =
      let h = mixing r vs ks s.weights s.ages m.choice m.best.allowed in
      let same : choice_from (length s.weights) b.pans ≡ m.choice = ap₂ choice_from (sym h.fitting.whole) m.number ∙ choice_from_number m.choice in
      rw same h.each

  lightest_by :
      (b : Option Bag) → Packs (mixed_by r vs ks) s b t → (q : Rule) (us : List Window) (cs : Choice) → Looser q r → Wider us vs →
      mixed_by q us ks s cs ≡ true → IsSomeAnd b (λ x. x.weight ≤ weight_of s.weights cs)
  lightest_by None m q us cs l w h = absurd (both_ways _ (m.0 cs) (wider_mixes ks s cs l w h))
  lightest_by (Some b) m q us cs l w h = omega (arith, m.weighs, no_lighter s.weights m.choice cs (m.best.unbeaten cs (wider_mixes ks s cs l w h)))

  never_by : (b : Option Bag) → Packs (mixed_by r vs ks) s b t → (k : ℕ) → k < length vs → (get_or vs k no_window).most < (get_or vs k no_window).least → b ≡ None
  never_by None m k l h = refl
  never_by (Some b) m k l h = absurd (both_ways _ (none_between r vs ks s.weights s.ages k l h m.choice) m.best.allowed)

  pub mix_promised : (b : Option Bag) → Keeps r.age s b t → Packs (mixed_by r vs ks) s b t → MixPromised r vs ks s b t
  mix_promised b k m = record { keeps = k; each = each_by b m; lightest = lightest_by b m; never = never_by b m }
