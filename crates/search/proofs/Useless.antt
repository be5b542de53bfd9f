-- Five reasons to skip the rest of a block of choices, and what that means for the search; and one to skip all.
use Rattle.std.proofs.Common.{◌≡◌, ℕ, ◌+◌, ◌-◌, ◌*◌, ◌/◌, ◌%◌, ◌^◌, ◌<◌, ◌≤◌, Bool, true, false, List, length, sym, refl, ◌∙◌, arith}
use Rattle.std.proofs.lemmas.Bool.{eqb-true}
use Rattle.std.proofs.lemmas.Nat.{pow_pos, div-add-mod'}
use Rattle.std.proofs.lemmas.Bool.Decides.{nat_tests}
use Rattle.choices.specs.Choice.{weight_of, opened, fits}
use Rattle.choices.specs.Numbered.{choice_of}
use Rattle.choices.specs.Tallied.{empty_ones, old_ones, old_count_of}
use Rattle.choices.specs.declared.rule.Rule.{Rule}
use Rattle.choices.proofs.Blocks.{opens_weight, last_opens, sum_apart}
use Rattle.choices.proofs.Choices.{fitting}
use Rattle.choices.proofs.Numbers.{length_choice_of, some_opened}
use Rattle.choices.proofs.Tallies.{none_empty_is, keeps_old_is, opened_apart, weighs_some}
use Rattle.order.specs.Order.{better}
use Rattle.order.proofs.Orders.{better_numbered}
use Rattle.search.specs.Block.{Useless}

-- a number j of a block: the head, and what is added to it
module _ (ws : List ℕ) (head t j : ℕ) (block : head % 2 ^ t ≡ 0) (above : head < j) (below : j < head + 2 ^ t) where
  times : head / 2 ^ t * 2 ^ t ≡ head
  times = omega (arith, div-add-mod' head (2 ^ t))

  same : head / 2 ^ t * 2 ^ t + (j - head) ≡ j
  same = omega (arith, times)

  inside : j - head < 2 ^ t
  inside = omega arith

  pub sum_more : (xs : List ℕ) (n : ℕ) → weight_of xs (choice_of n j) ≡ weight_of xs (choice_of n head) + weight_of xs (choice_of n (j - head))
  sum_more xs n = rw (same, times) at (sum_apart xs n (head / 2 ^ t) t (j - head) inside)

  pub sum_last : (xs : List ℕ) (n : ℕ) → weight_of xs (choice_of n j) ≤ weight_of xs (choice_of n (head + 2 ^ t - 1))
  sum_last xs n =
      let last : head / 2 ^ t * 2 ^ t + (2 ^ t - 1) ≡ head + 2 ^ t - 1 = omega (arith, times, pow_pos t) in
      rw (same, last) at (opens_weight xs n _ _ (last_opens (head / 2 ^ t) t (j - head) inside))

  opened_more : opened (choice_of (length ws) j) ≡ opened (choice_of (length ws) head) + opened (choice_of (length ws) (j - head))
  opened_more = rw (same, times) at (opened_apart ws (head / 2 ^ t) t (j - head) inside)

-- a choice that fits opens no empty pan
filled : (r : Rule) (ws as' : List ℕ) (n j : ℕ) → fits r ws as' (choice_of n j) ≡ true → weight_of (empty_ones ws) (choice_of n j) ≡ 0
filled r ws as' n j f = eqb-true _ _ (sym (none_empty_is ws (choice_of n j)) ∙ (fitting r ws as' _ f).filled)

module _ (r : Rule) (ws as' : List ℕ) (head t most : ℕ) (block : head % 2 ^ t ≡ 0) (whole : head + 2 ^ t ≤ 2 ^ length ws) where
  one_more : (j : ℕ) → head < j → j < head + 2 ^ t → 1 ≤ opened (choice_of (length ws) (j - head))
  one_more j a b = some_opened (length ws) (j - head) (omega arith) (omega arith)

  pub heavy : most ≤ weight_of ws (choice_of (length ws) head) → Useless r ws as' head t most
  heavy h j a b f =
      let n = length ws in
      omega (
        arith,
        one_more j a b,
        sum_more ws head t j block a b ws n,
        sum_more ws head t j block a b (empty_ones ws) n,
        filled r ws as' n j f,
        weighs_some ws (choice_of n (j - head)) (length_choice_of n (j - head)),
      )

  pub many : r.pans ≤ opened (choice_of (length ws) head) → Useless r ws as' head t most
  many h j a b f = absurd (omega (arith, one_more j a b, opened_more ws head t j block a b, (fitting r ws as' _ f).few))

  pub empty : 0 < weight_of (empty_ones ws) (choice_of (length ws) head) → Useless r ws as' head t most
  empty h j a b f = absurd (omega (arith, sum_more ws head t j block a b (empty_ones ws) (length ws), filled r ws as' (length ws) j f))

  pub light : weight_of ws (choice_of (length ws) (head + 2 ^ t - 1)) < r.target → Useless r ws as' head t most
  light h j a b f = absurd (omega (arith, sum_last ws head t j block a b ws (length ws), (fitting r ws as' _ f).enough))

  pub shut :
      length as' ≡ length ws → weight_of (old_ones r.age as') (choice_of (length ws) (head + 2 ^ t - 1)) < old_count_of r.age as' →
      Useless r ws as' head t most
  shut e h j a b f =
      let cs = choice_of (length ws) j in
      let all = eqb-true _ _ (sym (keeps_old_is r.age as' cs (length_choice_of (length ws) j ∙ sym e)) ∙ (fitting r ws as' cs f).old_opened) in
      absurd (omega (arith, sum_last ws head t j block a b (old_ones r.age as') (length ws), all))

-- where all pans together are too light, no choice fits
pub too_light :
    (r : Rule) (ws as' : List ℕ) → weight_of ws (choice_of (length ws) (2 ^ length ws - 1)) < r.target →
    (k : ℕ) → k < 2 ^ length ws → fits r ws as' (choice_of (length ws) k) ≡ false
too_light r ws as' h k l = at (fits r ws as' (choice_of n k)) refl
  where
    n : ℕ
    n = length ws

    none : (m : ℕ) → 0 * 2 ^ n + m ≡ m
    none m = omega arith

    least : weight_of ws (choice_of n k) ≤ weight_of ws (choice_of n (2 ^ n - 1))
    least = rw (none k, none (2 ^ n - 1)) at (opens_weight ws n _ _ (last_opens 0 n k l))

    at : (b : Bool) → fits r ws as' (choice_of n k) ≡ b → fits r ws as' (choice_of n k) ≡ false
    at false e = e
    at true e = absurd (omega (arith, least, (fitting r ws as' _ e).enough))

module _ (r : Rule) (ws as' : List ℕ) (most j : ℕ) where
  -- a choice heavier than target + above does not fit
  pub pass_none :
      most ≡ r.target + r.above → (fits r ws as' (choice_of (length ws) j) ≡ true → most < weight_of ws (choice_of (length ws) j)) →
      fits r ws as' (choice_of (length ws) j) ≡ false
  pass_none e h = at (fits r ws as' (choice_of (length ws) j)) refl
    where
      at : (b : Bool) → fits r ws as' (choice_of (length ws) j) ≡ b → fits r ws as' (choice_of (length ws) j) ≡ false
      at false k = k
      at true k = absurd (omega (arith, h k, (fitting r ws as' _ k).within))

  -- a choice heavier than the best so far does not beat it
  pub pass_some : (b : ℕ) → most ≡ weight_of ws (choice_of (length ws) b) → most < weight_of ws (choice_of (length ws) j) → better ws (choice_of (length ws) j) (choice_of (length ws) b) ≡ false
  pass_some b e h = rw (better_numbered ws (length ws) j b) (grind (arith, nat_tests))
