-- What is left of the proof of the first choice of one pan.
use Rattle.std.proofs.Common.{◌≡◌, ℕ, ◌+◌, ◌-◌, ◌*◌, ◌%◌, ◌^◌, ◌<◌, List, Some, None, MatchOption, Option, get_or, length, ◌≤◌, arith, rules, tests}
use Rattle.std.specs.List.{AllWithin, HoldsAt}
use Rattle.std.proofs.lemmas.Iterator.{YieldsList-from_slice, IsFirst-from_position}
use Rattle.std.proofs.lemmas.Nat.{one_shl}
use Rattle.exact.specs.Few.{Leads, LeadsAt, Picked}
use Rattle.exact.proofs.Leading.{heads_one, one_heads, picked_none, picks_more, picks_none}
use Rattle.exact.proofs.picks.one.Goals as goal

one_from :
    (ws : List ℕ) (x : ℕ) (r : Option ℕ) →
    MatchOption r (AllWithin (λ w. w ≡ x → ⊥) ws 0 (length ws)) (λ i. (i < length ws) × HoldsAt (λ w. w ≡ x) ws i × AllWithin (λ w. w ≡ x → ⊥) ws 0 i) →
    Leads 0 ws x r
one_from ws x None h = λ i heads. h i 0 (omega arith) heads.within (heads_one i heads)
one_from ws x (Some i) h = record { heads = one_heads i h.0 (h.1 0); earlier = λ j less heads. h.2 j 0 (omega arith) less (heads_one j heads) }

picked_one : (ws : List ℕ) (x i : ℕ) → length ws ≤ 24 → LeadsAt 0 ws x i → Picked 1 ws x ((1 * 2 ^ i) % 2 ^ 32)
picked_one ws x i small l =
    let e : x - get_or ws i 0 ≡ 0 = omega (arith, heads_one i l.heads) in
    let is : (1 * 2 ^ i) % 2 ^ 32 ≡ (2 * 0 + 1) * 2 ^ i = omega (arith, one_shl i 32 (omega (arith, l.heads.within))) in
    rw is (picks_more {n = 0} l (rw e picked_none))

pub returns : goal.returns
returns c =
    let x = c.args.weight in
    let h = IsFirst-from_position _ _ c.position.result (λ w. w ≡ x) (λ w. w ≡ x → ⊥) c.position.ensures.ran (YieldsList-from_slice c.args.free.now cc) (λ x q k. search (rules, tests)) (λ x q k. search (rules, tests)) in
    picked_one c.args.free.now x c.in_ok-pan.pan c.requires (one_from c.args.free.now x (Some c.in_ok-pan.pan) (rw c.in_ok-pan.was at h))

pub returns-in_err-pan : goal.returns-in_err-pan
returns-in_err-pan c =
    let x = c.args.weight in
    let h = IsFirst-from_position _ _ c.position.result (λ w. w ≡ x) (λ w. w ≡ x → ⊥) c.position.ensures.ran (YieldsList-from_slice c.args.free.now cc) (λ x q k. search (rules, tests)) (λ x q k. search (rules, tests)) in
    rw c.from_residual.ensures (picks_none (one_from c.args.free.now x None (rw c.in_err-pan.was at h)))
