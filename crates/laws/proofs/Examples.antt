-- The worked examples, by trying every choice of four pans: the checker computes the test.
use Rattle.std.proofs.Common.{◌≡◌, ℕ, zero, suc, ◌^◌, ◌<◌, Bool, true, not, ◌&&◌, ◌||◌, List, [], ◌∷◌, length, refl, inl, inr, lit<}
use Rattle.std.proofs.lemmas.Bool.{not-true, or_cases, both_ways}
use Rattle.std.proofs.lemmas.Bool.Decides.{Decides-below_and}
use Rattle.choices.specs.Choice.{fits}
use Rattle.choices.specs.Numbered.{choice_of}
use Rattle.choices.specs.declared.rule.Rule.{Rule}
use Rattle.choices.proofs.Choices.{fitting}
use Rattle.order.specs.Order.{better, BestOf, NoneOf}
use Rattle.search.proofs.Whole.{none_whatever, best_whatever}
use Rattle.laws.specs.Examples.{FirstPair, FewerPans, EmptyAndOld, rule, zeros, halves, tens, gap}

-- a test that every number below n passes
unfoldable all_below : (ℕ → Bool) → ℕ → Bool
all_below p zero = true
all_below p (suc n) = p n && all_below p n

each : (p : ℕ → Bool) (n : ℕ) → all_below p n ≡ true → (k : ℕ) → k < n → p k ≡ true
unfolding all_below
each p n h = (Decides-below_and p (λ k. p k ≡ true) (all_below p) (λ k. (λ e. e, λ e. e)) refl (λ _. refl) n).0 h

-- no choice is both allowed and better than the one numbered b
unfoldable unbeaten : Rule → (ws as' : List ℕ) → (b k : ℕ) → Bool
unbeaten r ws as' b k = not (fits r ws as' (choice_of (length ws) k)) || not (better ws (choice_of (length ws) k) (choice_of (length ws) b))

unfoldable refused : Rule → (ws as' : List ℕ) → ℕ → Bool
refused r ws as' k = not (fits r ws as' (choice_of (length ws) k))

best_by_test :
    (r : Rule) (ws as' : List ℕ) (b : ℕ) → b < 2 ^ length ws → fits r ws as' (choice_of (length ws) b) ≡ true →
    all_below (unbeaten r ws as' b) (2 ^ length ws) ≡ true → BestOf (fits r ws as') ws (choice_of (length ws) b)
unfolding unbeaten
best_by_test r ws as' b l f h =
    best_whatever (fits r ws as') ws (length ws) (λ cs e. (fitting r ws as' cs e).whole) b
    (record {
      below = l;
      allowed = f;
      unbeaten = λ k lt a.
          elim (or_cases _ _ (each (unbeaten r ws as' b) (2 ^ length ws) h k lt))
          [ inl e ↦ absurd (both_ways _ (not-true _ e) a) | inr e ↦ not-true _ e ];
    })

none_by_test :
    (r : Rule) (ws as' : List ℕ) → all_below (refused r ws as') (2 ^ length ws) ≡ true → NoneOf (fits r ws as')
unfolding refused
none_by_test r ws as' h =
    none_whatever (fits r ws as') ws (length ws) (λ cs e. (fitting r ws as' cs e).whole) (λ k lt. not-true _ (each (refused r ws as') (2 ^ length ws) h k lt))

pub first_pair : FirstPair
unfolding all_below unbeaten fits better
first_pair = (best_by_test (rule 100 10 4 9) halves zeros 12 (lit< tt) refl refl, refl)

pub fewer_pans : FewerPans
unfolding all_below unbeaten fits better
fewer_pans = (best_by_test (rule 30 5 3 9) tens zeros 2 (lit< tt) refl refl, refl)

pub empty_and_old : EmptyAndOld
unfolding all_below refused fits
empty_and_old = none_by_test (rule 30 50 4 2) gap (0 ∷ 0 ∷ 0 ∷ 2 ∷ []) refl
