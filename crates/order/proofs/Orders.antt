-- The order of choices is an order by three numbers, and what follows from that.
use Rattle.std.proofs.Common.{◌≡◌, ℕ, ◌%◌, ◌^◌, ◌≤◌, Bool, true, false, cond, ◌&&◌, ◌||◌, eqb, ltb, Some, Option, Ordering, Less, Equal, Greater, ◌⊎◌, List, [], ◌∷◌, length, sym, refl, ap, ◌∙◌, ap₂, inl, inr, arith}
use Rattle.std.specs.Cmp.{IsStrictWeakOrder}
use Rattle.std.specs.Ordering.{is_lt, is_some_and, nat_cmp, partial_ordering_then}
use Rattle.std.proofs.lemmas.List.MinMax.{IsStrictWeakOrder-by_number, IsStrictWeakOrder-flip}
use Rattle.std.proofs.lemmas.Bool.Decides.{nat_tests}
use Rattle.std.proofs.lemmas.Bool.{both_ways}
use Rattle.choices.specs.Choice.{Choice, weight_of, opened}
use Rattle.choices.specs.Numbered.{choice_of}
use Rattle.choices.proofs.Numbers.{code, code_lt, choice_of_code, length_choice_of, code_choice_of}
use Rattle.order.specs.Order.{then_by, first_more, better}
use Rattle.order.specs.Laws.{OneIsBetter, BetterGoesOn, BestIsOne}

pub ranks_then_by : {X : Type 0} (key : X → ℕ) (rest : X → X → Bool) → IsStrictWeakOrder rest → IsStrictWeakOrder (then_by key rest)
ranks_then_by key rest o =
    record {
      one_way = λ x y h. grind (arith, nat_tests, o.one_way x y);
      chain = λ x y z h k. grind (arith, nat_tests, o.chain x y z);
    }

-- what is better than a better one is better
pub ranks_on : {X : Type 0} (lt : X → X → Bool) → IsStrictWeakOrder lt → (x y z : X) → lt x y ≡ true → lt y z ≡ true → lt x z ≡ true
ranks_on lt o x y z h k = at (lt x z) refl
  where
    at : (b : Bool) → lt x z ≡ b → lt x z ≡ true
    at true e = e
    at false e = absurd (both_ways (lt x y) (o.chain x z y e (o.one_way y z k)) h)

-- the first pan that differs, by the choices' numbers
pub first_more_is : (cs ds : Choice) → length cs ≡ length ds → first_more cs ds ≡ ltb (code ds) (code cs)
first_more_is [] [] e = refl
first_more_is [] (d ∷ ds) e = absurd (omega arith)
first_more_is (c ∷ cs) [] e = absurd (omega arith)
first_more_is (true ∷ cs) (true ∷ ds) e =
    first_more_is cs ds (omega arith) ∙ grind (arith, nat_tests, ap (λ (n : ℕ). 2 ^ n) e)
first_more_is (true ∷ cs) (false ∷ ds) e = grind (arith, nat_tests, code_lt ds, ap (λ (n : ℕ). 2 ^ n) e)
first_more_is (false ∷ cs) (true ∷ ds) e = grind (arith, nat_tests, code_lt cs, ap (λ (n : ℕ). 2 ^ n) e)
first_more_is (false ∷ cs) (false ∷ ds) e = first_more_is cs ds (omega arith) ∙ grind (arith, nat_tests)

-- the order by weight, count and number
abbrev pub ranked : List ℕ → Choice → Choice → Bool
ranked ws = then_by (weight_of ws) (then_by opened (λ cs ds. ltb (code ds) (code cs)))

pub ranks_ranked : (ws : List ℕ) → IsStrictWeakOrder (ranked ws)
ranks_ranked ws = ranks_then_by (weight_of ws) _ (ranks_then_by opened _ (IsStrictWeakOrder-flip _ (IsStrictWeakOrder-by_number code)))

pub better_is : (ws : List ℕ) (cs ds : Choice) → length cs ≡ length ds → better ws cs ds ≡ ranked ws cs ds
unfolding better
better_is ws cs ds e = rw (first_more_is cs ds e)

-- the same order on choices given by numbers
pub ranks_better : (ws : List ℕ) (n : ℕ) → IsStrictWeakOrder (λ (a b : ℕ). better ws (choice_of n a) (choice_of n b))
ranks_better ws n =
    record {
      one_way = λ a b h. is b a ∙ (ranks_ranked ws).one_way (choice_of n a) (choice_of n b) (sym (is a b) ∙ h);
      chain = λ a b d h k. is a d ∙ (ranks_ranked ws).chain (choice_of n a) (choice_of n b) (choice_of n d) (sym (is a b) ∙ h) (sym (is b d) ∙ k);
    }
  where
    is : (a b : ℕ) → better ws (choice_of n a) (choice_of n b) ≡ ranked ws (choice_of n a) (choice_of n b)
    is a b = better_is ws (choice_of n a) (choice_of n b) (length_choice_of n a ∙ sym (length_choice_of n b))

pub one_is_better : OneIsBetter
one_is_better ws cs ds e =
    (total, λ h. better_is ws ds cs (sym e) ∙ (ranks_ranked ws).one_way cs ds (sym (better_is ws cs ds e) ∙ h))
  where
    same : code cs ≡ code ds → cs ≡ ds
    same k = sym (choice_of_code cs) ∙ ap₂ choice_of e k ∙ choice_of_code ds

    three : (ranked ws cs ds ≡ true) ⊎ ((ranked ws ds cs ≡ true) ⊎ (code cs ≡ code ds))
    three = grind (arith, nat_tests)

    total : (cs ≡ ds) ⊎ ((better ws cs ds ≡ true) ⊎ (better ws ds cs ≡ true))
    total = elim three [ inl h ↦ inr (inl (better_is ws cs ds e ∙ h)) | inr (inl h) ↦ inr (inr (better_is ws ds cs (sym e) ∙ h)) | inr (inr k) ↦ inl (same k) ]

pub better_goes_on : BetterGoesOn
better_goes_on ws cs ds es e f h k =
    better_is ws cs es (e ∙ f) ∙ ranks_on (ranked ws) (ranks_ranked ws) cs ds es (sym (better_is ws cs ds e) ∙ h) (sym (better_is ws ds es f) ∙ k)

pub best_is_one : BestIsOne
best_is_one may ws n long cs ds b d =
    elim (one_is_better ws cs ds (long cs b.allowed ∙ sym (long ds d.allowed))).0 [
      | inl e ↦ e
      | inr (inl h) ↦ absurd (both_ways (better ws cs ds) (d.unbeaten cs b.allowed) h)
      | inr (inr h) ↦ absurd (both_ways (better ws ds cs) (b.unbeaten ds d.allowed) h)
    ]

-- the order of two numbered choices, as it is worked out
pub better_numbered :
    (ws : List ℕ) (n a b : ℕ) →
    better ws (choice_of n a) (choice_of n b)
    ≡ then_by (λ m. weight_of ws (choice_of n m)) (then_by (λ m. opened (choice_of n m)) (λ x y. ltb (y % 2 ^ n) (x % 2 ^ n))) a b
better_numbered ws n a b =
    better_is ws (choice_of n a) (choice_of n b) (length_choice_of n a ∙ sym (length_choice_of n b)) ∙ rw (code_choice_of n a, code_choice_of n b)

-- a comparison number by number, as a derive writes it, and the order by a number first
pub lt_then : (x y : ℕ) (o : Option Ordering) → is_some_and is_lt (partial_ordering_then (Some (nat_cmp x y)) o) ≡ (ltb x y || (eqb x y && is_some_and is_lt o))
lt_then x y o = at (ltb x y) (eqb x y)
  where
    at : (b d : Bool) → is_some_and is_lt (partial_ordering_then (Some (cond b Less (cond d Equal Greater))) o) ≡ (b || (d && is_some_and is_lt o))
    at true d = refl
    at false true = refl
    at false false = refl

-- the same by three numbers
pub lt_by_three :
    (v w p q s t : ℕ) →
    is_some_and is_lt (partial_ordering_then (Some (nat_cmp v w)) (partial_ordering_then (Some (nat_cmp p q)) (Some (nat_cmp s t))))
    ≡ (ltb v w || (eqb v w && (ltb p q || (eqb p q && ltb s t))))
lt_by_three v w p q s t = lt_then v w _ ∙ ap (λ (b : Bool). ltb v w || (eqb v w && b)) (lt_then p q _ ∙ ap (λ (b : Bool). ltb p q || (eqb p q && b)) (last (ltb s t) (eqb s t)))
  where
    last : (b d : Bool) → is_some_and is_lt (Some (cond b Less (cond d Equal Greater))) ≡ b
    last true d = refl
    last false true = refl
    last false false = refl

-- what is no lighter, opens no fewer pans of equals, and of those not the first one more, is not better
pub not_better : (a b m n : ℕ) (f : Bool) → b ≤ a → (a ≡ b → n ≤ m) → (a ≡ b → m ≡ n → f ≡ false) → (ltb a b || (eqb a b && (ltb m n || (eqb m n && f)))) ≡ false
not_better a b m n f heavy many first = grind (arith, nat_tests)

-- what is not better is no lighter
pub no_lighter : (ws : List ℕ) (cs ds : Choice) → better ws ds cs ≡ false → weight_of ws cs ≤ weight_of ws ds
unfolding better
no_lighter ws cs ds h = grind (arith, nat_tests)
