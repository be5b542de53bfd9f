-- With one kind, kind 0 in each pan, of which as little and as much may be as the rule allows, a mix is what the rule alone is.
use Rattle.std.proofs.Common.{◌≡◌, ℕ, zero, suc, ◌+◌, ◌≤◌, Bool, true, false, List, [], ◌∷◌, length, get_or, Some, None, Option, Ok, Err, refl, ap, arith}
use Rattle.std.specs.Prelude.{replicate}
use Rattle.std.proofs.lemmas.Bool.{le-leb, eq-eqb}
use Rattle.answers.specs.declared.refusal.Refusal.{Refusal}
use Rattle.choices.specs.Choice.{Choice, fits, weight_of}
use Rattle.choices.specs.Ruled.{rule_in}
use Rattle.choices.specs.Stand.{Stand, May, by_rule}
use Rattle.choices.specs.declared.limits.TheConstants.{LIMIT}
use Rattle.choices.specs.declared.rule.Rule.{Rule}
use Rattle.choices.proofs.Choices.{fitting}
use Rattle.kinds.specs.Kinds.{mixes, weight_of_kind}
use Rattle.kinds.specs.declared.mixed.Window.{Window}
use Rattle.kinds.proofs.Weighing.{weight_of_kinds_is}
use Rattle.mixing.specs.Entry.{AsWithoutKinds}
use Rattle.mixing.specs.Refusals.{kinds_refusal, mix_refusal}
use Rattle.mixing.specs.Windows.{mixed_by, windows_in}
use Rattle.order.specs.Laws.{SameChoices}
use Rattle.order.specs.declared.bag.Bag.{Bag}
use Rattle.order.proofs.Over.{best_over, none_over}
use Rattle.packing.specs.Entry.{Answer, Answered, Packs}
use Rattle.packing.specs.Refusals.{first_refusal}
use Rattle.packing.proofs.Making.{answered_alike, or_none}
use Rattle.packing.proofs.Refused.{none_below}

abbrev zeros : ℕ → List ℕ
zeros n = replicate n 0

length-zeros : (n : ℕ) → length (zeros n) ≡ n
length-zeros zero = refl
length-zeros (suc n) = ap suc (length-zeros n)

zeros_at : (n i : ℕ) → get_or (zeros n) i 0 ≡ 0
zeros_at zero i = refl
zeros_at (suc n) zero = refl
zeros_at (suc n) (suc i) = zeros_at n i

-- the one kind weighs what the bag does
only_kind : (ws : List ℕ) (cs : Choice) → weight_of_kind 0 (zeros (length ws)) ws cs ≡ weight_of ws cs
only_kind ws cs =
    let ks = zeros (length ws) in
    let all = weight_of_kinds_is 1 ks ws cs (length-zeros (length ws)) (λ i l. omega (arith, zeros_at (length ws) i)) in
    omega (arith, all)

mixes_fits : (r : Rule) (v : Window) (ws as' : List ℕ) (cs : Choice) → v.least ≤ r.target → r.target + r.above ≤ v.most → mixes r (v ∷ []) (zeros (length ws)) ws as' cs ≡ fits r ws as' cs
mixes_fits r v ws as' cs low high = at (fits r ws as' cs) refl
  where
    at : (b : Bool) → fits r ws as' cs ≡ b → mixes r (v ∷ []) (zeros (length ws)) ws as' cs ≡ fits r ws as' cs
    at false e = rw e refl
    at true e =
        let f = fitting r ws as' cs e in
        let w = only_kind ws cs in
        rw (e, w, le-leb v.least (weight_of ws cs) (omega (arith, f.enough)), le-leb (weight_of ws cs) v.most (omega (arith, f.within))) refl

-- the same choices are allowed, so the same is packed
packs_over : (may may' : May) (s t : Stand) (b : Option Bag) → SameChoices (may s) (may' s) s.weights s.weights → Packs may s b t → Packs may' s b t
packs_over may may' s t None same m = (none_over same m.0, m.1)
packs_over may may' s t (Some b) same m = record { choice = m.choice; best = best_over same m.choice m.best; number = m.number; weighs = m.weighs; leaves = m.leaves }

answered_over :
    (o : Option Refusal) (may may' : May) (s t : Stand) (d : Answer) → SameChoices (may s) (may' s) s.weights s.weights → Answered o may s d t → Answered o may' s d t
answered_over None may may' s t (Ok b) same h = packs_over may may' s t b same h
answered_over None may may' s t (Err f) same h = h
answered_over (Some g) may may' s t (Ok b) same h = h
answered_over (Some g) may may' s t (Err f) same h = h

-- nothing more is turned away
refused_alike :
    (a b c g l m : ℕ) (s : Stand) → l ≤ LIMIT → m ≤ LIMIT →
    mix_refusal (a ∷ b ∷ c ∷ g ∷ l ∷ m ∷ []) s (zeros (length s.weights)) ≡ first_refusal 4 (a ∷ b ∷ c ∷ g ∷ []) s
refused_alike a b c g l m s low high =
    let n = length s.weights in
    let ks = zeros n in
    let kinds : kinds_refusal 1 n ks ≡ None = rw (eq-eqb (length ks) n (length-zeros n), none_below 0 0 ks (λ i. omega (arith, zeros_at n i))) refl in
    rw (kinds, le-leb l LIMIT low, le-leb m LIMIT high) (or_none (first_refusal 4 (a ∷ b ∷ c ∷ g ∷ []) s))

one_kind :
    (a b c g l m : ℕ) (s : Stand) (d e : Answer) (t u : Stand) → l ≤ a → a + b ≤ m → m ≤ LIMIT →
    Answered (mix_refusal (a ∷ b ∷ c ∷ g ∷ l ∷ m ∷ []) s (zeros (length s.weights)))
    (mixed_by (rule_in (a ∷ b ∷ c ∷ g ∷ l ∷ m ∷ [])) (windows_in (a ∷ b ∷ c ∷ g ∷ l ∷ m ∷ [])) (zeros (length s.weights))) s d t →
    Answered (first_refusal 4 (a ∷ b ∷ c ∷ g ∷ []) s) (by_rule (rule_in (a ∷ b ∷ c ∷ g ∷ []))) s e u → (d ≡ e) × (t ≡ u)
one_kind a b c g l m s d e t u low high small h k =
    let r = rule_in (a ∷ b ∷ c ∷ g ∷ []) in
    let v : Window = record { least = l; most = m } in
    let o = first_refusal 4 (a ∷ b ∷ c ∷ g ∷ []) s in
    let i : Answered o (mixed_by r (v ∷ []) (zeros (length s.weights))) s d t = rw (refused_alike a b c g l m s (omega arith) small) at h in
    answered_alike o r s d e t u
    (answered_over o (mixed_by r (v ∷ []) (zeros (length s.weights))) (by_rule r) s t d (record { same = λ cs. mixes_fits r v s.weights s.ages cs low high; weighs = λ cs y. refl }) i) k

pub as_without_kinds :
    (rs ks : List ℕ) (s : Stand) (d : Answer) (t : Stand) → Answered (mix_refusal rs s ks) (mixed_by (rule_in rs) (windows_in rs) ks) s d t → AsWithoutKinds rs ks s d t
as_without_kinds rs ks s d t h a b c g l m er ek low high small e u k = one_kind a b c g l m s d e t u low high small (rw (er, ek) at h) k
