-- From the first kinds to one more, and from all of them to the best that mixes.
use Rattle.std.proofs.Common.{◌≡◌, ℕ, ◌+◌, ◌<◌, Bool, true, ◌&&◌, List, length, get_or, take, Some, None, sym, ◌∙◌, arith}
use Rattle.std.proofs.Math.Bool.{and_assoc}
use Rattle.std.proofs.lemmas.List.{length-take-le, take_more, take_all}
use Rattle.choices.specs.Choice.{Choice, weight_of, fits}
use Rattle.choices.specs.Numbered.{choice_of}
use Rattle.choices.specs.Stand.{InOrder, stand}
use Rattle.choices.specs.declared.limits.TheConstants.{LIMIT}
use Rattle.choices.proofs.Choices.{fitting}
use Rattle.kinds.specs.Kinds.{mixes, no_window, of_kind}
use Rattle.kinds.specs.declared.mixed.MixedRing.{MixedRing}
use Rattle.kinds.proofs.Mixing.{in_windows-more, mixes_fits}
use Rattle.kinds.proofs.Weighing.{length-of_kind, of_kind_light, weight_of-of_kind}
use Rattle.kinds_scan.specs.Within.{LooksAt, first_kinds, in_window}
use Rattle.order.specs.Order.{BestOf, NoneOf}
use Rattle.search.specs.Sought.{Sought}
use Rattle.search.proofs.Whole.{none_whatever, best_whatever}

-- the weights of one kind alone are in order too
pub own_in_order : (x : MixedRing) (k : ℕ) → InOrder (stand (of_kind k x.kinds.now x.ring.weights.now) x.ring.ages.now)
own_in_order x k =
    let o = x.ring.ordered in
    let long = length-of_kind k x.kinds.now x.ring.weights.now x.paired in
    record {
      present = omega (arith, long, o.present);
      few = omega (arith, long, o.few);
      paired = o.paired ∙ sym long;
      light = of_kind_light LIMIT k x.kinds.now x.ring.weights.now o.light;
      young = o.young;
    }

module _ (x : MixedRing) (m : ℕ) (known : m < length x.windows.now) where
  -- one kind more is one test more
  first_kinds-more :
      (cs : Choice) →
      first_kinds (m + 1) x cs ≡ (first_kinds m x cs && in_window (get_or x.windows.now m no_window) (weight_of (of_kind m x.kinds.now x.ring.weights.now) cs))
  first_kinds-more cs =
      let vs = x.windows.now in
      let ks = x.kinds.now in
      let ws = x.ring.weights.now in
      let fit = fits x.ring.rule ws x.ring.ages.now cs in
      let long : 0 + length (take m vs) ≡ m = omega (arith, length-take-le m vs (omega arith)) in
      let more = in_windows-more 0 (take m vs) (get_or vs m no_window) ks ws cs in
      rw (take_more vs m no_window known, more, long, weight_of-of_kind m ks ws cs) (sym (and_assoc fit _ _))

  pub looks_more :
      {n : ℕ} {allows : ℕ → Bool} {beats : ℕ → ℕ → Bool} (ws : List ℕ) → LooksAt m x n allows beats →
      ws ≡ of_kind m x.kinds.now x.ring.weights.now →
      LooksAt (m + 1) x n (λ k. allows k && in_window (get_or x.windows.now m no_window) (weight_of ws (choice_of (length ws) k))) beats
  looks_more ws h e =
      record {
        counts = h.counts;
        allowed = λ k.
            let cs = choice_of (length x.ring.weights.now) k in
            let long = length-of_kind m x.kinds.now x.ring.weights.now x.paired in
            rw (e, long, h.allowed k) (sym (first_kinds-more cs));
        beaten = h.beaten;
      }

-- a criterion that looks at all kinds finds the best that mixes
module _ (x : MixedRing) {n : ℕ} {allows : ℕ → Bool} {beats : ℕ → ℕ → Bool} (h : LooksAt (length x.windows.now) x n allows beats) where
  all_kinds : (k : ℕ) → allows k ≡ mixes x.ring.rule x.windows.now x.kinds.now x.ring.weights.now x.ring.ages.now (choice_of (length x.ring.weights.now) k)
  all_kinds k = rw (take_all (length x.windows.now) x.windows.now (omega arith)) at (h.allowed k)

  long : (cs : Choice) → mixes x.ring.rule x.windows.now x.kinds.now x.ring.weights.now x.ring.ages.now cs ≡ true → length cs ≡ length x.ring.weights.now
  long cs m = (fitting _ _ _ cs (mixes_fits x.ring.rule x.windows.now x.kinds.now x.ring.weights.now x.ring.ages.now cs m)).whole

  pub none_by : Sought allows beats n None → NoneOf (mixes x.ring.rule x.windows.now x.kinds.now x.ring.weights.now x.ring.ages.now)
  none_by s = none_whatever _ x.ring.weights.now (length x.ring.weights.now) long (λ k l. sym (all_kinds k) ∙ s k (omega (arith, h.counts)))

  pub best_by :
      (b : ℕ) → Sought allows beats n (Some b) →
      BestOf (mixes x.ring.rule x.windows.now x.kinds.now x.ring.weights.now x.ring.ages.now) x.ring.weights.now (choice_of (length x.ring.weights.now) b)
  best_by b s =
      best_whatever _ x.ring.weights.now (length x.ring.weights.now) long b
      (record {
        below = rw h.counts at s.below;
        allowed = sym (all_kinds b) ∙ s.allowed;
        unbeaten = λ k l a. sym (h.beaten k b) ∙ s.unbeaten k (omega (arith, h.counts)) (all_kinds k ∙ a);
      })
