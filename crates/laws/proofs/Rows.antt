-- Rows of bags of any kind: nothing is lost, no pan waits too long, and the bags weigh enough and not too much.
use Rattle.std.proofs.Common.{◌≡◌, ℕ, suc, ◌+◌, List, length, inl, inr, sym, refl, ap, ◌∙◌, suc-mul, arith}
use Rattle.choices.specs.Stand.{Stand, May, total, NoneAbove}
use Rattle.choices.proofs.Leaving.{nothing_lost, left_young}
use Rattle.choices.proofs.Marked.{length_marked}
use Rattle.engines.specs.Kinds.{Lawful}
use Rattle.packing.specs.Entry.{Made}
use Rattle.laws.specs.Rows.{Falls, done, keeps, takes, Bags, start, next}
use Rattle.laws.specs.Laws.{NoPanWaitsTooLong, BagsWeighEnough, RowsLoseNothing}

pub length_falls : {ws vs : List ℕ} {f : ℕ} → Falls ws vs f → length vs ≡ length ws
length_falls done = refl
length_falls (keeps w h) = ap suc (length_falls h)
length_falls (takes w h) = ap suc (length_falls h)

pub falls_total : {ws vs : List ℕ} {f : ℕ} → Falls ws vs f → total ws + f ≡ total vs
falls_total done = refl
falls_total (keeps w h) = omega (arith, falls_total h)
falls_total (takes w h) = omega (arith, falls_total h)

-- after a bag, and handfuls, there is still an age for each pan
pub made_paired :
    {may : May} {s u : Stand} {ws : List ℕ} {p w f : ℕ} → length s.ages ≡ length s.weights → Made may s p w u → Falls u.weights ws f → length u.ages ≡ length ws
made_paired {s = s} e m h =
    ap (λ (t : Stand). length t.ages) m.leaves ∙ length_marked _ s.ages m.choice ∙ e
    ∙ sym (length_falls h ∙ ap (λ (t : Stand). length t.weights) m.leaves ∙ length_marked _ s.weights m.choice)

module _ {K : Type 0} {allows : K → May} {age least top : K → ℕ} {after : K → (weight : ℕ) → K} {ready : K → (pans bags : ℕ) → Type 0}
    (law : Lawful allows age least top after ready) where
  -- there stays an age for each pan
  bags_paired :
      {first : K} {s : Stand} {k : K} {t : Stand} {n w f : ℕ} → length s.ages ≡ length s.weights → Bags allows after first s k t n w f → length t.ages ≡ length t.weights
  bags_paired e start = e
  bags_paired e (next b m h) = made_paired (bags_paired e b) m h

  -- the age, the least and the top stay
  pub bags_same :
      {first : K} {s : Stand} {k : K} {t : Stand} {n w f : ℕ} → Bags allows after first s k t n w f → (age k ≡ age first) × (least k ≡ least first) × (top k ≡ top first)
  bags_same start = (refl, refl, refl)
  bags_same (next {k = k} {w = w} b m h) =
      let i = bags_same b in (law.same_age k w ∙ i.0, law.same_least k w ∙ i.1, law.same_top k w ∙ i.2)

  pub no_pan_waits_too_long : NoPanWaitsTooLong allows age after
  no_pan_waits_too_long first s k t n w f e (inl y) start = y
  no_pan_waits_too_long first s k t n w f e (inr l) start = absurd (omega arith)
  no_pan_waits_too_long first s k t n w f e y (next {k = j} {t = u} b m h) =
      let young : NoneAbove (age j) _ = rw m.leaves (left_young (bags_paired e b) (law.sound j u m.choice m.best.allowed)) in
      rw (sym (bags_same b).0) young

  pub rows_lose_nothing : RowsLoseNothing allows after
  rows_lose_nothing first s k t n w f start = omega arith
  rows_lose_nothing first s k t n w f (next {k = j} {t = u} b m h) =
      omega (arith, rows_lose_nothing first s j u _ _ _ b, falls_total h, m.weighs, ap (λ (v : Stand). total v.weights) m.leaves, nothing_lost u.weights m.choice)

  pub bags_weigh_enough : BagsWeighEnough allows least top after
  bags_weigh_enough first s k t n w f start = (omega arith, omega arith)
  bags_weigh_enough first s k t n w f (next {k = j} {t = u} {n = i} b m h) =
      let a = law.sound j u m.choice m.best.allowed in
      let same = bags_same b in
      let rest = bags_weigh_enough first s j u _ _ _ b in (
        omega (arith, suc-mul i (least first), m.weighs, a.enough, same.1, rest.0),
        omega (arith, suc-mul i (top first), m.weighs, a.within, same.2, rest.1),
      )
