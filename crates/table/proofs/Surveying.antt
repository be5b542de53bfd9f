-- The survey of a ring pan by pan: what is seen so far, and what is left, make up the whole.
use Rattle.std.proofs.Common.{◌≡◌, ℕ, zero, suc, ◌+◌, ◌-◌, ◌*◌, ◌≤◌, min, max, Bool, true, false, cond, ◌&&◌, ◌||◌, ltb, leb, List, [], ◌∷◌, length, get_or, arith}
use mathlib.Core.Bool.{and_assoc}
use Rattle.choices.specs.declared.rule.Rule.{Rule}
use Rattle.table.specs.Pans.{old_weight_of, old_count_of, free_weight, free_at, heaviest, none_old_empty, span_of}
use Rattle.table.specs.Surveyed.{Surveyed}
use Rattle.table.specs.declared.survey.Survey.{Survey}

-- the pans with the weights ws' and the ages as' are left
pub record Surveying (old : ℕ) (ws as'' ws' as' : List ℕ) (s : Survey) : Type 0 where
  pub paired : length as' ≡ length ws'
  pub each : (i : ℕ) → get_or ws' i 0 ≤ 1000000
  pub few : s.old_count + length ws' ≤ 24
  pub light : s.old_weight + s.free + 1000000 * length ws' ≤ 24000000
  pub some : s.heaviest ≤ 1000000
  pub old_weight : s.old_weight + old_weight_of old ws' as' ≡ old_weight_of old ws as''
  pub old_count : s.old_count + old_count_of old as' ≡ old_count_of old as''
  pub free : s.free + free_weight old ws' as' ≡ free_weight old ws as''
  pub heavy : max s.heaviest (heaviest old ws' as') ≡ heaviest old ws as''
  pub old_filled : (s.old_filled && none_old_empty old ws' as') ≡ none_old_empty old ws as''

split : (b : Bool) (w : ℕ) → cond b 0 w + cond b w 0 ≡ w
split true w = omega arith
split false w = omega arith

one : (b : Bool) → cond b 0 1 ≤ 1
one true = omega arith
one false = omega arith

-- one pan more is seen
pub surveying_next :
    {old : ℕ} {ws as'' : List ℕ} {w a : ℕ} {ws₁ as₁ ws' as' : List ℕ} {s t : Survey} →
    Surveying old ws as'' ws₁ as₁ s → ws₁ ≡ w ∷ ws' → as₁ ≡ a ∷ as' →
    t.old_weight ≡ s.old_weight + cond (ltb a old) 0 w → t.old_count ≡ s.old_count + cond (ltb a old) 0 1 →
    t.free ≡ s.free + cond (ltb a old) w 0 → t.heaviest ≡ max (cond (ltb a old) w 0) s.heaviest →
    t.old_filled ≡ (s.old_filled && (ltb a old || leb 1 w)) →
    Surveying old ws as'' ws' as' t
surveying_next {old} {ws} {as''} {w} {a} {ws₁} {as₁} {ws'} {as'} {s} {t} h₁ e f old_weight old_count free heavy old_filled =
    record {
      paired = omega (arith, h.paired);
      each = λ i. h.each (suc i);
      few = omega (arith, h.few, one (ltb a old));
      light = omega (arith, h.light, h.each 0, split (ltb a old) w);
      some = omega (arith, h.some, heavy, h.each 0, split (ltb a old) w);
      old_weight = omega (arith, h.old_weight);
      old_count = omega (arith, h.old_count);
      free = omega (arith, h.free);
      heavy = omega (arith, h.heavy, heavy);
      old_filled = rw (old_filled, and_assoc) h.old_filled;
    }
  where
    h : Surveying old ws as'' (w ∷ ws') (a ∷ as') s
    h = rw (e, f) at h₁

-- no free pan is heavier than the heaviest
pub heaviest_is : (old : ℕ) (ws as' : List ℕ) (i : ℕ) → length as' ≡ length ws → free_at old ws as' i ≤ heaviest old ws as'
heaviest_is old [] as' i paired = none (ltb (get_or as' i 0) old)
  where
    none : (b : Bool) → cond b 0 0 ≤ 0
    none true = omega arith
    none false = omega arith
heaviest_is old (w ∷ ws) [] i paired = absurd (omega arith)
heaviest_is old (w ∷ ws) (a ∷ as') zero paired = omega arith
heaviest_is old (w ∷ ws) (a ∷ as') (suc i) paired = omega (arith, heaviest_is old ws as' i (omega arith))

pub span_is : (r : Rule) (ws as' : List ℕ) (s : Survey) → Surveyed r.age ws as' s → min (r.target + r.above - s.old_weight) s.free ≡ span_of r ws as'
unfolding span_of
span_is r ws as' s h = rw (h.old_weight, h.free)
