-- A season of any kind, bag by bag: the pans stay in order, the kind goes on, and what is told adds up.
use Rattle.std.proofs.Common.{◌≡◌, ℕ, suc, ◌+◌, ◌-◌, ◌*◌, ◌<◌, ◌≤◌, Bool, true, List, length, get_or, MatchBool, sym, refl, ap, ◌∙◌, add-mul, add-one, arith}
use Rattle.choices.specs.Stand.{Stand, stand, InOrder, May, by_rule, total}
use Rattle.choices.specs.declared.limits.TheConstants.{LIMIT}
use Rattle.choices.specs.declared.rule.Rule.{Rule}
use Rattle.choices.proofs.Choices.{weight_le, opened_le}
use Rattle.choices.proofs.Leaving.{left_in_order}
use Rattle.choices.proofs.Marked.{length_marked}
use Rattle.engines.specs.Kinds.{Lawful}
use Rattle.engines.specs.Plain.{same_rule}
use Rattle.order.specs.Order.{NoneOf}
use Rattle.packing.specs.Entry.{Made}
use Rattle.laws.specs.Rows.{Falls, Bags, start, next}
use Rattle.laws.proofs.Rows.{length_falls, bags_same, bags_weigh_enough, no_pan_waits_too_long, rows_lose_nothing}
use Rattle.seasons.specs.Handfuls.{hands, place, empties, filled}
use Rattle.seasons.specs.Season.{refilled, Course, start as begins, next as goes, Kept, Plays}
use Rattle.seasons.proofs.Filling.{falls_filled, length_hands, hands_small, filled_small, hands_add, place_add, total_append}

-- handfuls of a list fall into all empty pans
hands_fall : (hs ws : List ℕ) (i : ℕ) → Falls ws (filled ws (hands hs i (empties ws))) (total (hands hs i (empties ws)))
hands_fall hs ws i = falls_filled ws (hands hs i (empties ws)) (length_hands hs i (empties ws))

abbrev Small : List ℕ → Type 0
Small hs = (i : ℕ) → get_or hs i 0 ≤ LIMIT

-- the handfuls leave the pans in order
refilled_in_order : (hs : List ℕ) (i : ℕ) (u : Stand) → Small hs → InOrder u → InOrder (refilled hs i u)
refilled_in_order hs i u small o =
    let long = length_falls (hands_fall hs u.weights i) in
    record {
      present = omega (arith, long, o.present);
      few = omega (arith, long, o.few);
      paired = o.paired ∙ sym long;
      light = filled_small LIMIT u.weights (hands hs i (empties u.weights)) o.light (hands_small LIMIT hs small i (empties u.weights));
      young = o.young;
    }

-- what is known in the midst of a season: so many handfuls have fallen, and p is the place of the next
pub record Playing {K : Type 0} (allows : K → May) (after : K → (weight : ℕ) → K) (hs : List ℕ) (first : K) (s : Stand) (k : K) (t : Stand) (p n v : ℕ) : Type 0 where
  pub handfuls : ℕ
  pub course : Course allows after hs first s k t handfuls n v
  pub placed : p ≡ place hs 0 handfuls
  pub within : 0 < length hs → p < length hs
  pub bound : v ≤ n * 24000000

pub playing_none : {K : Type 0} {allows : K → May} {after : K → (weight : ℕ) → K} {hs : List ℕ} {k : K} {s : Stand} → Playing allows after hs k s k s 0 0 0
playing_none = record { handfuls = 0; course = begins; placed = refl; within = λ l. l; bound = omega arith }

module _ {K : Type 0} {allows : K → May} {age least top : K → ℕ} {after : K → (weight : ℕ) → K} {ready : K → (pans bags : ℕ) → Type 0}
    (law : Lawful allows age least top after ready) where
  -- a season is a row of bags
  season_bags :
      {hs : List ℕ} {first : K} {s : Stand} {k : K} {t : Stand} {j n v : ℕ} → Course allows after hs first s k t j n v → Bags allows after first s k t n v (total (hands hs 0 j))
  season_bags begins = start
  season_bags {hs} (goes {u = u} {j = j} h m) =
      let e : total (hands hs 0 j) + total (hands hs (place hs 0 j) (empties u.weights)) ≡ total (hands hs 0 (j + empties u.weights)) =
      sym (total_append (hands hs 0 j) (hands hs (place hs 0 j) (empties u.weights))) ∙ ap total (hands_add hs 0 j (empties u.weights)) in
      rw e at (next (season_bags h) m (hands_fall hs u.weights (place hs 0 j)))

  -- a bag of pans in order leaves them so
  made_in_order : {k : K} {t u : Stand} {p w : ℕ} → age k ≤ LIMIT → InOrder t → Made (allows k) t p w u → InOrder u
  made_in_order {k} {t} small o m = rw m.leaves (left_in_order small o (law.sound k t m.choice m.best.allowed))

  pub course_ordered :
      {hs : List ℕ} {first : K} {s : Stand} {k : K} {t : Stand} {j n v : ℕ} → Small hs → age first ≤ LIMIT → InOrder s → Course allows after hs first s k t j n v → InOrder t
  course_ordered small young o begins = o
  course_ordered {hs} small young o (goes {u = u} {j = j} h m) =
      refilled_in_order hs (place hs 0 j) u small
      (made_in_order (omega (arith, (bags_same law (season_bags h)).0)) (course_ordered small young o h) m)

  -- as many pans as at the start
  pub course_long : {hs : List ℕ} {first : K} {s : Stand} {k : K} {t : Stand} {j n v : ℕ} → Course allows after hs first s k t j n v → length t.weights ≡ length s.weights
  course_long begins = refl
  course_long {hs} (goes {t = t} {u = u} {j = j} h m) =
      length_falls (hands_fall hs u.weights (place hs 0 j)) ∙ ap (λ (x : Stand). length x.weights) m.leaves ∙ length_marked _ t.weights m.choice ∙ course_long h

  -- at every bag the kind is ready for those that are left
  pub course_ready :
      {hs : List ℕ} {first : K} {s : Stand} {k : K} {t : Stand} {j n v : ℕ} (wanted : ℕ) → ready first (length s.weights) wanted →
      Course allows after hs first s k t j n v → n ≤ wanted → ready k (length t.weights) (wanted - n)
  course_ready wanted y begins l = rw (e wanted) y
    where
      e : (m : ℕ) → m - 0 ≡ m
      e m = omega arith
  course_ready {hs} {first} {s} wanted y (goes {k = k} {t = t} {u = u} {j = j} {n = n} {w = w} h m) l =
      let e : wanted - n ≡ suc (wanted - suc n) = omega arith in
      let before : ready k (length t.weights) (suc (wanted - suc n)) = rw e at (course_ready wanted y h (omega arith)) in
      let long : length (refilled hs (place hs 0 j) u).weights ≡ length t.weights = course_long (goes h m) ∙ sym (course_long h) in
      rw (long, m.weighs) (law.goes_on k t m.choice (wanted - suc n) before m.best.allowed)

  none_played : {hs : List ℕ} {first : K} {s : Stand} {k : K} {t : Stand} {j n v : ℕ} → Course allows after hs first s k t j n v → n ≡ 0 → t ≡ s
  none_played begins e = refl
  none_played (goes h m) e = absurd (omega arith)

  -- one bag more, and the handfuls behind it
  pub playing_more :
      {hs : List ℕ} {first : K} {s : Stand} {k : K} {t : Stand} {u : Stand} {i j n v p w : ℕ} {ws : List ℕ} → InOrder t →
      Playing allows after hs first s k t i n v → Made (allows k) t p w u →
      j ≡ place hs i (empties u.weights) → (0 < length hs → j < length hs) → ws ≡ filled u.weights (hands hs i (empties u.weights)) →
      Playing allows after hs first s (after k w) (stand ws u.ages) j (n + 1) (v + w)
  playing_more {hs} {k = k} {t} {u} {i} {j} {n} {v} {p} {w} {ws} o g m e l f =
      let same : ws ≡ filled u.weights (hands hs (place hs 0 g.handfuls) (empties u.weights)) =
      f ∙ ap (λ (x : ℕ). filled u.weights (hands hs x (empties u.weights))) g.placed in
      record {
        handfuls = g.handfuls + empties u.weights;
        course = rw (same, add-one n) (goes g.course m);
        placed = e ∙ ap (λ (x : ℕ). place hs x (empties u.weights)) g.placed ∙ place_add hs 0 g.handfuls (empties u.weights);
        within = l;
        bound = omega (arith, add-mul n 1 24000000, m.weighs, weight_le LIMIT t.weights m.choice o.light, opened_le m.choice, (law.sound k t m.choice m.best.allowed).whole, o.few, g.bound);
      }

  kept :
      {hs : List ℕ} {first : K} {s : Stand} {k : K} {t : Stand} {j n v : ℕ} → InOrder s →
      Course allows after hs first s k t j n v → Kept age least top hs first s t j n v
  kept {first = first} {s} {k} {t} o h =
      let row = season_bags h in
      let weigh = bags_weigh_enough law first s k t _ _ _ row in
      record {
        young = λ y. no_pan_waits_too_long law first s k t _ _ _ o.paired y row;
        enough = weigh.0;
        within = weigh.1;
        nothing_lost = rows_lose_nothing law first s k t _ _ _ row;
        still = none_played h;
      }

  -- what was played keeps what is promised
  pub plays_by :
      {hs : List ℕ} {first : K} {s : Stand} {k : K} {t : Stand} {p n v : ℕ} (wanted : ℕ) (early : Bool) → Small hs → InOrder s →
      ready first (length s.weights) wanted → n ≤ wanted → Playing allows after hs first s k t p n v →
      MatchBool early ((n < wanted) × NoneOf (allows k t)) (n ≡ wanted) →
      Plays allows age least top after ready hs wanted first s k t n v early
  plays_by {first = first} {s} wanted early small o y l g ends =
      record {
        handfuls = g.handfuls;
        course = g.course;
        ends = ends;
        kept = λ j u i n v h. kept o h;
        ordered = λ j u i n v h. course_ordered small (law.old first (length s.weights) wanted y) o h;
        goes_on = λ j u i n v h less. course_ready wanted y h less;
      }

  -- it ends early where nothing is allowed any more, and then nothing changed
  pub plays_ended :
      {hs : List ℕ} {first : K} {s : Stand} {k j : K} {t u : Stand} {p n v : ℕ} (wanted : ℕ) → Small hs → InOrder s → ready first (length s.weights) wanted →
      n < wanted → Playing allows after hs first s k t p n v → NoneOf (allows k t) → j ≡ k → u ≡ t →
      Plays allows age least top after ready hs wanted first s j u n v true
  plays_ended wanted small o y l g none e f = rw (e, f) (plays_by wanted true small o y (omega arith) g (l, none))

-- by a rule nothing of the kind changes
pub same_kind :
    {hs : List ℕ} {first : Rule} {s : Stand} {k : Rule} {t : Stand} {j n v : ℕ} → Course by_rule same_rule hs first s k t j n v → k ≡ first
same_kind begins = refl
same_kind (goes h m) = same_kind h
