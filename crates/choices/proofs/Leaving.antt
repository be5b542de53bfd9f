-- What a bag leaves: nothing is lost, no pan is too old, and the pans are in order; and what a looser rule allows.
use Rattle.std.proofs.Common.{◌≡◌, ℕ, zero, suc, ◌+◌, ◌≤◌, true, false, ltb, List, [], ◌∷◌, length, get_or, sym, refl, ◌∙◌, arith}
use Rattle.std.proofs.lemmas.Bool.{and_parts, and_from, ltb-true, lt-ltb}
use Rattle.choices.specs.Choice.{Choice, weight_of, keeps_old, emptied, aged}
use Rattle.choices.specs.Stand.{Stand, InOrder, by_rule, Allowed, left_by, total, NoneAbove, Looser}
use Rattle.choices.specs.declared.limits.TheConstants.{LIMIT}
use Rattle.choices.specs.declared.rule.Rule.{Rule}
use Rattle.choices.proofs.Choices.{fitting, fits_from}
use Rattle.choices.proofs.Marked.{length_marked}

pub nothing_lost : (ws : List ℕ) (cs : Choice) → weight_of ws cs + total (emptied ws cs) ≡ total ws
nothing_lost [] cs = refl
nothing_lost (w ∷ ws) [] = omega arith
nothing_lost (w ∷ ws) (true ∷ cs) = omega (arith, nothing_lost ws cs)
nothing_lost (w ∷ ws) (false ∷ cs) = omega (arith, nothing_lost ws cs)

-- after a bag no age is above the rule's, whatever it was before
pub aged_young : (old : ℕ) (as' : List ℕ) (cs : Choice) → length cs ≡ length as' → keeps_old old as' cs ≡ true → NoneAbove old (aged as' cs)
aged_young old [] cs e h i = omega arith
aged_young old (a ∷ as') [] e h i = absurd (omega arith)
aged_young old (a ∷ as') (true ∷ cs) e h zero = omega arith
aged_young old (a ∷ as') (true ∷ cs) e h (suc i) = aged_young old as' cs (omega arith) h i
aged_young old (a ∷ as') (false ∷ cs) e h zero = omega (arith, ltb-true a old (and_parts (ltb a old) (keeps_old old as' cs) h).0)
aged_young old (a ∷ as') (false ∷ cs) e h (suc i) = aged_young old as' cs (omega arith) (and_parts (ltb a old) (keeps_old old as' cs) h).1 i

emptied_light : (m : ℕ) (ws : List ℕ) (cs : Choice) → ((i : ℕ) → get_or ws i 0 ≤ m) → (i : ℕ) → get_or (emptied ws cs) i 0 ≤ m
emptied_light m [] cs h i = omega arith
emptied_light m (w ∷ ws) [] h i = h i
emptied_light m (w ∷ ws) (true ∷ cs) h zero = omega arith
emptied_light m (w ∷ ws) (false ∷ cs) h zero = h 0
emptied_light m (w ∷ ws) (c ∷ cs) h (suc i) = emptied_light m ws cs (λ j. h (suc j)) i

pub left_young : {age least top : ℕ} {s : Stand} {cs : Choice} → length s.ages ≡ length s.weights → Allowed age least top s cs → NoneAbove age (left_by s cs).ages
left_young {age} {s = s} {cs} paired a = aged_young age s.ages cs (a.whole ∙ sym paired) a.old

-- after a bag the pans are in order again
pub left_in_order : {age least top : ℕ} {s : Stand} {cs : Choice} → age ≤ LIMIT → InOrder s → Allowed age least top s cs → InOrder (left_by s cs)
left_in_order {s = s} {cs} small o a =
    let long = length_marked _ s.weights cs in
    record {
      present = omega (arith, long, o.present);
      few = omega (arith, long, o.few);
      paired = length_marked _ s.ages cs ∙ o.paired ∙ sym long;
      light = emptied_light LIMIT s.weights cs o.light;
      young = λ i. omega (arith, left_young o.paired a i, small);
    }

-- a higher age asks for no more pans
keeps_old_later : (old age : ℕ) (as' : List ℕ) (cs : Choice) → old ≤ age → keeps_old old as' cs ≡ true → keeps_old age as' cs ≡ true
keeps_old_later old age [] cs l h = refl
keeps_old_later old age (a ∷ as') [] l h = refl
keeps_old_later old age (a ∷ as') (true ∷ cs) l h = keeps_old_later old age as' cs l h
keeps_old_later old age (a ∷ as') (false ∷ cs) l h =
    let p = and_parts (ltb a old) (keeps_old old as' cs) h in
    and_from _ _ (lt-ltb a age (omega (arith, ltb-true a old p.0))) (keeps_old_later old age as' cs l p.1)

-- what fits a rule fits every looser one
pub looser_fits : {r q : Rule} (s : Stand) (cs : Choice) → Looser r q → by_rule r s cs ≡ true → by_rule q s cs ≡ true
looser_fits {r} {q} s cs l h =
    let f = fitting r s.weights s.ages cs h in
    fits_from q s.weights s.ages cs
    (record {
      whole = f.whole;
      enough = omega (arith, f.enough, l.lighter);
      within = omega (arith, f.within, l.heavier);
      few = omega (arith, f.few, l.more);
      filled = f.filled;
      old_opened = keeps_old_later r.age q.age s.ages cs l.older f.old_opened;
    })
