-- What a choice that mixes has, as facts; and what wider windows and looser rules allow.
use Rattle.std.proofs.Common.{◌≡◌, ℕ, zero, suc, ◌+◌, ◌<◌, Bool, true, false, ◌&&◌, List, [], ◌∷◌, ◌++◌, length, get_or, sym, refl, ap, ◌∙◌, arith}
use Rattle.std.proofs.Math.Bool.{and_assoc}
use Rattle.std.specs.Prelude.{nat_le}
use Rattle.std.proofs.lemmas.Bool.{and_parts, and_from, leb-true, le-leb}
use Rattle.choices.specs.Choice.{Choice, fits}
use Rattle.choices.specs.Stand.{Stand, Looser}
use Rattle.choices.specs.declared.rule.Rule.{Rule}
use Rattle.choices.proofs.Choices.{Fitting, fitting, fits_from}
use Rattle.choices.proofs.Leaving.{looser_fits}
use Rattle.order.specs.Order.{NoneOf}
use Rattle.kinds.specs.Kinds.{weight_of_kind, in_windows, mixes, no_window, InWindow, SoMuchOfEach, Wider}
use Rattle.kinds.specs.declared.mixed.Window.{Window}

-- ---- the test of the windows, as facts
pub in_windows_each :
    (k : ℕ) (vs : List Window) (ks ws : List ℕ) (cs : Choice) → in_windows k vs ks ws cs ≡ true →
    (j : ℕ) → j < length vs → InWindow (get_or vs j no_window) (weight_of_kind (k + j) ks ws cs)
in_windows_each k [] ks ws cs h j l = absurd (omega arith)
in_windows_each k (v ∷ vs) ks ws cs h zero l =
    let e : k + 0 ≡ k = omega arith in
    let a = and_parts _ _ (and_parts _ _ h).0 in rw e (record { enough = leb-true _ _ a.0; within = leb-true _ _ a.1 })
in_windows_each k (v ∷ vs) ks ws cs h (suc j) l =
    let e : k + suc j ≡ k + 1 + j = omega arith in rw e (in_windows_each (k + 1) vs ks ws cs (and_parts _ _ h).1 j (omega arith))

pub in_windows_from :
    (k : ℕ) (vs : List Window) (ks ws : List ℕ) (cs : Choice) →
    ((j : ℕ) → j < length vs → InWindow (get_or vs j no_window) (weight_of_kind (k + j) ks ws cs)) → in_windows k vs ks ws cs ≡ true
in_windows_from k [] ks ws cs h = refl
in_windows_from k (v ∷ vs) ks ws cs h =
    let e : k + 0 ≡ k = omega arith in
    let here : InWindow v (weight_of_kind k ks ws cs) = rw e at (h 0 (omega arith)) in
    and_from _ _ (and_from _ _ (le-leb _ _ here.enough) (le-leb _ _ here.within)) (in_windows_from (k + 1) vs ks ws cs (λ j l. rw (moved j) at (h (suc j) (omega arith))))
  where
    moved : (j : ℕ) → k + suc j ≡ k + 1 + j
    moved j = omega arith

and_true : (b : Bool) → (b && true) ≡ b
and_true true = refl
and_true false = refl

-- one window more is one test more
pub in_windows-more :
    (k : ℕ) (vs : List Window) (v : Window) (ks ws : List ℕ) (cs : Choice) →
    in_windows k (vs ++ v ∷ []) ks ws cs
    ≡ (in_windows k vs ks ws cs && (nat_le v.least (weight_of_kind (k + length vs) ks ws cs) && nat_le (weight_of_kind (k + length vs) ks ws cs) v.most))
in_windows-more k [] v ks ws cs =
    let e : k + 0 ≡ k = omega arith in rw e (and_true (nat_le v.least (weight_of_kind k ks ws cs) && nat_le (weight_of_kind k ks ws cs) v.most))
in_windows-more k (u ∷ us) v ks ws cs =
    let e : k + suc (length us) ≡ k + 1 + length us = omega arith in
    rw e
    (ap (λ b. (nat_le u.least (weight_of_kind k ks ws cs) && nat_le (weight_of_kind k ks ws cs) u.most) && b) (in_windows-more (k + 1) us v ks ws cs)
    ∙ sym (and_assoc (nat_le u.least (weight_of_kind k ks ws cs) && nat_le (weight_of_kind k ks ws cs) u.most) _ _))

-- ---- the whole test
pub record Mixing (r : Rule) (vs : List Window) (ks ws as' : List ℕ) (cs : Choice) : Type 0 where
  pub fitting : Fitting r ws as' cs
  pub each : SoMuchOfEach vs ks ws cs

-- what mixes fits the rule
pub mixes_fits : (r : Rule) (vs : List Window) (ks ws as' : List ℕ) (cs : Choice) → mixes r vs ks ws as' cs ≡ true → fits r ws as' cs ≡ true
mixes_fits r vs ks ws as' cs h = (and_parts _ _ h).0

pub mixing : (r : Rule) (vs : List Window) (ks ws as' : List ℕ) (cs : Choice) → mixes r vs ks ws as' cs ≡ true → Mixing r vs ks ws as' cs
mixing r vs ks ws as' cs h =
    let a = and_parts _ _ h in
    record { fitting = fitting r ws as' cs a.0; each = λ k l. rw (from_zero k) at (in_windows_each 0 vs ks ws cs a.1 k l) }
  where
    from_zero : (k : ℕ) → 0 + k ≡ k
    from_zero k = omega arith

pub mixes_from : (r : Rule) (vs : List Window) (ks ws as' : List ℕ) (cs : Choice) → Mixing r vs ks ws as' cs → mixes r vs ks ws as' cs ≡ true
mixes_from r vs ks ws as' cs m =
    and_from _ _ (fits_from r ws as' cs m.fitting) (in_windows_from 0 vs ks ws cs (λ j l. rw (from_zero j) (m.each j l)))
  where
    from_zero : (k : ℕ) → 0 + k ≡ k
    from_zero k = omega arith

-- what mixes by narrower windows and a stricter rule mixes by wider and looser ones
pub wider_mixes :
    {r q : Rule} {vs us : List Window} (ks : List ℕ) (s : Stand) (cs : Choice) → Looser r q → Wider vs us →
    mixes r vs ks s.weights s.ages cs ≡ true → mixes q us ks s.weights s.ages cs ≡ true
wider_mixes {r} {q} {vs} {us} ks s cs l w h =
    let m = mixing r vs ks s.weights s.ages cs h in
    mixes_from q us ks s.weights s.ages cs
    (record {
      fitting = fitting q s.weights s.ages cs (looser_fits s cs l (mixes_fits r vs ks s.weights s.ages cs h));
      each = λ k b.
          let c : k < length vs = omega (arith, w.long) in
          let v = m.each k c in record { enough = omega (arith, w.less k c, v.enough); within = omega (arith, w.more k c, v.within) };
    })

-- a kind whose least is above its most has no bag
pub none_between :
    (r : Rule) (vs : List Window) (ks ws as' : List ℕ) (k : ℕ) → k < length vs → (get_or vs k no_window).most < (get_or vs k no_window).least →
    NoneOf (mixes r vs ks ws as')
none_between r vs ks ws as' k l h cs = at (mixes r vs ks ws as' cs) refl
  where
    at : (b : Bool) → mixes r vs ks ws as' cs ≡ b → mixes r vs ks ws as' cs ≡ false
    at false e = e
    at true e = let v = (mixing r vs ks ws as' cs e).each k l in absurd (omega (arith, v.enough, v.within))
