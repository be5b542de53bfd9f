-- Where nothing is turned away everything is in order, and the first number above a limit in two lists.
use Rattle.std.proofs.Common.{◌≡◌, ℕ, zero, suc, ◌+◌, ◌<◌, ◌≤◌, Bool, true, false, cond, ◌&&◌, eqb, leb, List, [], ◌∷◌, ◌++◌, length, get_or, take, drop, take-append-drop, Some, None, MatchOption, Option, Ok, sym, refl, ap, ◌∙◌, arith}
use Rattle.std.specs.List.{AllWithin, HoldsAt}
use Rattle.std.specs.Option.{option_map}
use Rattle.std.proofs.lemmas.Bool.{leb-true, eqb-true, eq-eqb, and_parts, lt-leb, le-leb}
use Rattle.packing.specs.Laws.{RefusalsAreExact}
use Rattle.answers.specs.declared.refusal.Refusal.TheVariants.{Rule as RuleRefused, Pans, Number}
use Rattle.answers.specs.declared.refusal.Refusal.{Refusal}
use Rattle.packing.specs.Refusals.{Accepted, first_above, rule_fault, pans_fault, rule_refusal, pans_refusal, numbers_refusal, first_refusal}
use Rattle.answers.specs.Refusals.{or_else, passed}
use Rattle.choices.specs.Ruled.{rule_in}
use Rattle.choices.specs.Stand.{Stand, RuleWithin}
use Rattle.choices.specs.declared.limits.TheConstants.{LIMIT, PANS}

pub first_above_append : (m i : ℕ) (xs ys : List ℕ) → first_above m i (xs ++ ys) ≡ or_else (first_above m i xs) (first_above m (i + length xs) ys)
first_above_append m i [] ys = ap (λ (k : ℕ). first_above m k ys) {y = i + 0} (omega arith)
first_above_append m i (x ∷ xs) ys = at (leb x m) (first_above_append m (i + 1) xs ys)
  where
    at : (b : Bool) → first_above m (i + 1) (xs ++ ys) ≡ or_else (first_above m (i + 1) xs) (first_above m (i + 1 + length xs) ys) →
        cond b (first_above m (i + 1) (xs ++ ys)) (Some i) ≡ or_else (cond b (first_above m (i + 1) xs) (Some i)) (first_above m (i + suc (length xs)) ys)
    at true h = h ∙ ap (λ (k : ℕ). or_else (first_above m (i + 1) xs) (first_above m k ys)) {y = i + suc (length xs)} (omega arith)
    at false h = refl

-- the same of a list that is cut in two
pub first_above_parts : (m i n : ℕ) (xs front back : List ℕ) → front ≡ take n xs → back ≡ drop n xs → first_above m i xs ≡ or_else (first_above m i front) (first_above m (i + length front) back)
first_above_parts m i n xs front back f b = rw (f, b) (ap (first_above m i) (sym (take-append-drop n xs)) ∙ first_above_append m i (take n xs) (drop n xs))

-- no number is above the limit, or the first that is stands at a place
pub first_above_by : (m i : ℕ) (xs : List ℕ) (r : Option ℕ) →
    MatchOption r (AllWithin (λ x. x ≤ m) xs 0 (length xs)) (λ k. (k < length xs) × HoldsAt (λ x. m < x) xs k × AllWithin (λ x. x ≤ m) xs 0 k) →
    first_above m i xs ≡ option_map (λ k. i + k) r
first_above_by m i [] None h = refl
first_above_by m i [] (Some k) h = absurd (omega (arith, h.0))
first_above_by m i (x ∷ xs) None h = rw (le-leb x m (h 0 0 (omega arith) (omega arith))) (first_above_by m (i + 1) xs None (λ k d l u. h (suc k) d (omega arith) (omega arith)))
first_above_by m i (x ∷ xs) (Some zero) h = rw (lt-leb x m (h.1 0)) (ap Some {y = i + 0} (omega arith))
first_above_by m i (x ∷ xs) (Some (suc k)) h =
    rw (le-leb x m (h.2 0 0 (omega arith) (omega arith)))
    (first_above_by m (i + 1) xs (Some k) (omega (arith, h.0), λ d. h.1 d, λ j d l u. h.2 (suc j) d (omega arith) (omega arith)) ∙ ap Some {x = i + 1 + k} (omega arith))

some_none : {X : Type 0} {x : X} → Some x ≡ None → ⊥
some_none e = let z : ◌≡◌ {A = ℕ} 0 1 = cc in omega arith

-- no number is above the limit
pub none_above : (m i : ℕ) (xs : List ℕ) → first_above m i xs ≡ None → (k : ℕ) → get_or xs k 0 ≤ m
none_above m i [] h k = omega arith
none_above m i (x ∷ xs) h k = at (leb x m) refl h (none_above m (i + 1) xs) k
  where
    at : (b : Bool) → leb x m ≡ b → cond b (first_above m (i + 1) xs) (Some i) ≡ None →
        (first_above m (i + 1) xs ≡ None → (k : ℕ) → get_or xs k 0 ≤ m) → (k : ℕ) → get_or (x ∷ xs) k 0 ≤ m
    at true e h rest zero = leb-true x m e
    at true e h rest (suc k) = rest h k
    at false e h rest k = absurd (some_none h)

pub or_parts : {X : Type 0} (o q : Option X) → or_else o q ≡ None → (o ≡ None) × (q ≡ None)
or_parts None q h = (refl, h)
or_parts (Some x) q h = absurd (some_none h)

pub cond_none : {X : Type 0} (b : Bool) (o : Option X) (x : X) → cond b o (Some x) ≡ None → (b ≡ true) × (o ≡ None)
cond_none true o x h = (refl, h)
cond_none false o x h = absurd (some_none h)

-- the three checks passed
accepted :
    {long : ℕ} {rs : List ℕ} {s : Stand} → rule_fault long rs ≡ None → pans_fault (length s.weights) (length s.ages) ≡ None →
    first_above LIMIT 0 (s.weights ++ s.ages) ≡ None → Accepted long rs s
accepted {long} {rs} {s} r p n =
    let whole = cond_none (eqb (length rs) long) _ _ r in
    let rule = or_parts (first_above LIMIT 0 rs) _ whole.1 in
    let pans = cond_none (leb 1 (length s.weights) && leb (length s.weights) PANS) _ _ p in
    let bounds = and_parts (leb 1 (length s.weights)) (leb (length s.weights) PANS) pans.0 in
    let numbers = or_parts (first_above LIMIT 0 s.weights) _ (sym (first_above_append LIMIT 0 s.weights s.ages) ∙ n) in
    record {
      long = eqb-true _ _ whole.0;
      some = leb-true _ _ (target (leb 1 (get_or rs 0 0)) rule.1);
      small = none_above LIMIT 0 rs rule.0;
      ordered =
          record {
            present = leb-true _ _ bounds.0;
            few = leb-true _ _ bounds.1;
            paired = eqb-true _ _ (cond_none (eqb (length s.ages) (length s.weights)) None _ pans.1).0;
            light = none_above LIMIT 0 s.weights numbers.0;
            young = none_above LIMIT (0 + length s.weights) s.ages numbers.1;
          };
    }
  where
    target : (b : Bool) → cond {A = Option ℕ} b None (Some 0) ≡ None → b ≡ true
    target true h = refl
    target false h = absurd (some_none {x = 0} h)

pub mapped_none : {X Y : Type 0} (f : X → Y) (o : Option X) → option_map f o ≡ None → o ≡ None
mapped_none f None h = refl
mapped_none f (Some x) h = absurd (some_none h)

-- what passed has nothing wrong with it, and is what was asked for
pub passed_as : {X : Type 0} (o : Option Refusal) (x y : X) → Ok y ≡ passed o x → (o ≡ None) × (y ≡ x)
passed_as None x y e = (refl, cc)
passed_as (Some f) x y e = absurd (let z : ◌≡◌ {A = ℕ} 0 1 = cc in omega arith)

pub passed_all :
    {long : ℕ} {rs : List ℕ} {s : Stand} → rule_refusal long rs ≡ None → pans_refusal (length s.weights) (length s.ages) ≡ None →
    numbers_refusal (s.weights ++ s.ages) ≡ None → Accepted long rs s
passed_all r p n = accepted (mapped_none RuleRefused _ r) (mapped_none Pans _ p) (mapped_none Number _ n)

pub none_below : (m i : ℕ) (xs : List ℕ) → ((k : ℕ) → get_or xs k 0 ≤ m) → first_above m i xs ≡ None
none_below m i [] h = refl
none_below m i (x ∷ xs) h = rw (le-leb x m (h 0)) (none_below m (i + 1) xs (λ k. h (suc k)))

pub refusals_are_exact : RefusalsAreExact
refusals_are_exact long rs s = (gives, takes)
  where
    gives : first_refusal long rs s ≡ None → Accepted long rs s
    gives h =
        let rule = or_parts (option_map RuleRefused (rule_fault long rs)) _ h in
        let rest = or_parts (option_map Pans (pans_fault (length s.weights) (length s.ages))) _ rule.1 in
        passed_all rule.0 rest.0 rest.1

    takes : Accepted long rs s → first_refusal long rs s ≡ None
    takes a =
        rw (
          eq-eqb (length rs) long a.long,
          none_below LIMIT 0 rs a.small,
          le-leb 1 (get_or rs 0 0) a.some,
          le-leb 1 (length s.weights) a.ordered.present,
          le-leb (length s.weights) PANS a.ordered.few,
          eq-eqb (length s.ages) (length s.weights) a.ordered.paired,
          first_above_append LIMIT 0 s.weights s.ages,
          none_below LIMIT 0 s.weights a.ordered.light,
          none_below LIMIT (0 + length s.weights) s.ages a.ordered.young,
        )

-- a rule that is accepted is within the limits
pub within : {long : ℕ} {rs : List ℕ} {s : Stand} → Accepted long rs s → RuleWithin LIMIT (rule_in rs)
within a = record { some = a.some; target = a.small 0; above = a.small 1; pans = a.small 2; age = a.small 3 }
