-- The choice of the fewest free pans, joined with the old pans, is the best of all that fit.
use Rattle.std.proofs.Common.{◌≡◌, ℕ, ◌+◌, ◌-◌, ◌*◌, ◌^◌, ◌<◌, ◌≤◌, ◌⊎◌, true, false, not, List, length, get_or, None, inl, inr, refl, sym, ◌∙◌, arith}
use Rattle.std.proofs.lemmas.Bool.{cases_lt, not-false}
use Rattle.std.proofs.lemmas.Nat.{pow_below}
use Rattle.choices.specs.declared.limits.TheConstants.{WIDEST}
use Rattle.choices.specs.Choice.{Choice, weight_of, opened, none_empty, fits}
use Rattle.choices.specs.Numbered.{number_of}
use Rattle.choices.specs.declared.rule.Rule.{Rule}
use Rattle.choices.proofs.Choices.{Fitting, fitting, fits_from}
use Rattle.choices.proofs.Numbers.{number_lt}
use Rattle.order.specs.Order.{better, first_more, BestBag}
use Rattle.order.proofs.Orders.{not_better}
use Rattle.exact.specs.Pans.{only_old, free_of}
use Rattle.exact.specs.Few.{Makes, ChosenAt, Chosen}
use Rattle.exact.specs.Answers.{Easy}
use Rattle.exact.specs.Old.{OldPansOf}
use Rattle.exact.specs.declared.old.OldPans.{OldPans}
use Rattle.exact.proofs.Joining.{Joined, join, Split, split, with_old, without_old, more_free, length_free, few_le}

-- the old pans leave so much to the target
pub record Left (r : Rule) (ws as' : List ℕ) (x : ℕ) : Type 0 where
  pub paired : length as' ≡ length ws
  pub few : length ws ≤ 24
  pub target : r.target ≤ WIDEST
  pub fills : none_empty ws (only_old r.age as') ≡ true
  pub old_few : opened (only_old r.age as') ≤ r.pans
  pub makes : weight_of ws (only_old r.age as') + x ≡ r.target

pub left :
    (r : Rule) {ws as' : List ℕ} {d : OldPans} → OldPansOf r.age ws as' d → length as' ≡ length ws → length ws ≤ 24 → r.target ≤ WIDEST →
    not d.filled ≡ false → d.pans ≤ r.pans → d.weight ≤ r.target → Left r ws as' (r.target - d.weight)
left r {d = d} o paired few target filled old_few light =
    record {
      paired = paired;
      few = few;
      target = target;
      fills = sym o.fills ∙ not-false d.filled filled;
      old_few = omega (arith, o.counts);
      makes = omega (arith, o.weighs);
    }

-- a choice that fits, and its free pans alone
pub record Apart (r : Rule) (ws as' : List ℕ) (ds : Choice) : Type 0 where
  pub fitted : Fitting r ws as' ds
  pub parts : Split r.age ws as' ds

pub apart : (r : Rule) (ws as' : List ℕ) (ds : Choice) → length as' ≡ length ws → fits r ws as' ds ≡ true → Apart r ws as' ds
apart r ws as' ds paired h = let f = fitting r ws as' ds h in record { fitted = f; parts = split r.age ws as' ds paired f.whole f.filled f.old_opened }

-- of a choice that weighs exactly the target, the free pans weigh what is left
makes_left :
    {r : Rule} {ws as' : List ℕ} {x : ℕ} {ds : Choice} → Left r ws as' x → Apart r ws as' ds → weight_of ws ds ≡ r.target →
    Makes (opened (without_old r.age as' ds)) (free_of r.age ws as') x (without_old r.age as' ds)
makes_left {r} {ws} {as'} l a just =
    record {
      whole = omega (arith, a.parts.whole, length_free r.age ws as' l.paired);
      counts = refl;
      weighs = omega (arith, l.makes, a.parts.weighs);
    }

-- the chosen free pans, joined with the old pans
joined :
    {r : Rule} {ws as' : List ℕ} {x n : ℕ} → Left r ws as' x → (s : ChosenAt (r.pans - opened (only_old r.age as')) (free_of r.age ws as') x n) →
    Joined r.age ws as' s.picked.choice
joined {r} {ws} {as'} l s =
    let m = s.picked.first.makes in
    join r.age ws as' s.picked.choice l.paired (omega (arith, m.whole, length_free r.age ws as' l.paired)) (omega (arith, m.weighs, l.makes, l.target))

pub best_chosen :
    {r : Rule} {ws as' : List ℕ} {x n : ℕ} → Left r ws as' x → ChosenAt (r.pans - opened (only_old r.age as')) (free_of r.age ws as') x n →
    BestBag (fits r ws as') ws (record { pans = number_of (only_old r.age as') + n; weight = r.target })
unfolding better
best_chosen {r} {ws} {as'} {x} {n} l s =
    record {
      choice = with_old r.age as' s.picked.choice;
      best = record { allowed = fits_from r ws as' (with_old r.age as' s.picked.choice) fitted; unbeaten = unbeaten };
      number = omega (arith, j.numbers, s.picked.is);
      weighs = omega (arith, j.weighs, m.weighs, l.makes);
    }
  where
    m : Makes s.count (free_of r.age ws as') x s.picked.choice
    m = s.picked.first.makes

    j : Joined r.age ws as' s.picked.choice
    j = joined l s

    fitted : Fitting r ws as' (with_old r.age as' s.picked.choice)
    fitted =
        record {
          whole = j.whole;
          enough = omega (arith, j.weighs, m.weighs, l.makes);
          within = omega (arith, j.weighs, m.weighs, l.makes);
          few = omega (arith, j.counts, m.counts, s.within, l.old_few);
          filled = j.fills l.fills;
          old_opened = j.old_opened;
        }

    unbeaten : (ds : Choice) → fits r ws as' ds ≡ true → better ws ds (with_old r.age as' s.picked.choice) ≡ false
    unbeaten ds f =
        not_better (weight_of ws ds) (weight_of ws (with_old r.age as' s.picked.choice)) (opened ds) (opened (with_old r.age as' s.picked.choice))
        (first_more ds (with_old r.age as' s.picked.choice)) (omega (arith, j.weighs, m.weighs, l.makes, a.fitted.enough)) (λ same. fewest (just same))
        (λ same equal. first (just same) equal)
      where
        a : Apart r ws as' ds
        a = apart r ws as' ds l.paired f

        just : weight_of ws ds ≡ weight_of ws (with_old r.age as' s.picked.choice) → weight_of ws ds ≡ r.target
        just same = omega (arith, j.weighs, m.weighs, l.makes)

        fewest : weight_of ws ds ≡ r.target → opened (with_old r.age as' s.picked.choice) ≤ opened ds
        fewest e = at (cases_lt (opened (without_old r.age as' ds)) s.count)
          where
            at : (opened (without_old r.age as' ds) < s.count) ⊎ (s.count ≤ opened (without_old r.age as' ds)) → opened (with_old r.age as' s.picked.choice) ≤ opened ds
            at (inl less) = absurd (s.fewer (opened (without_old r.age as' ds)) less (without_old r.age as' ds) (makes_left l a e))
            at (inr more) = omega (arith, j.counts, m.counts, a.parts.counts)

        first : weight_of ws ds ≡ r.target → opened ds ≡ opened (with_old r.age as' s.picked.choice) → first_more ds (with_old r.age as' s.picked.choice) ≡ false
        first e equal =
            let k : opened (without_old r.age as' ds) ≡ s.count = omega (arith, j.counts, m.counts, a.parts.counts) in
            more_free r.age ws as' ds s.picked.choice l.paired a.fitted.whole (omega (arith, m.whole, length_free r.age ws as' l.paired)) a.fitted.old_opened
            (omega (arith, m.weighs, l.makes, l.target))
            ∙ s.picked.first.first (without_old r.age as' ds) (rw k at (makes_left l a e))

-- its number fits in 32 bits
pub chosen_fits :
    {r : Rule} {ws as' : List ℕ} {x n : ℕ} → Left r ws as' x → ChosenAt (r.pans - opened (only_old r.age as')) (free_of r.age ws as') x n →
    number_of (only_old r.age as') + n < 2 ^ 32
chosen_fits {r} {ws} {as'} l s =
    let j = joined l s in
    let below : number_of (with_old r.age as' s.picked.choice) < 2 ^ length ws = rw j.whole at (number_lt (with_old r.age as' s.picked.choice)) in
    omega (arith, j.numbers, s.picked.is, pow_below (length ws) 32 (omega (arith, l.few)))

-- ---- `None`: there is no easy choice

-- what an easy choice tells of the old pans
pub record Known (r : Rule) (ws as' : List ℕ) : Type 0 where
  pub fills : none_empty ws (only_old r.age as') ≡ true
  pub old_few : opened (only_old r.age as') ≤ r.pans
  pub light : weight_of ws (only_old r.age as') ≤ r.target

pub known : {r : Rule} {ws as' : List ℕ} {cs : Choice} → length as' ≡ length ws → Easy r ws as' cs → Known r ws as'
known {r} {ws} {as'} {cs} paired e =
    let a = apart r ws as' cs paired e.fitting in
    record { fills = a.parts.fills; old_few = omega (arith, a.parts.counts, a.fitted.few); light = omega (arith, a.parts.weighs, e.just) }

pub none_chosen :
    {r : Rule} {ws as' : List ℕ} {x : ℕ} {cs : Choice} → Left r ws as' x → Chosen (r.pans - opened (only_old r.age as')) (free_of r.age ws as') x None →
    Easy r ws as' cs → ⊥
none_chosen {r} {ws} {as'} {x} {cs} l none e =
    let a = apart r ws as' cs l.paired e.fitting in
    none (opened (without_old r.age as' cs)) (omega (arith, a.parts.counts, a.fitted.few)) (omega (arith, a.parts.counts, e.few)) (without_old r.age as' cs)
    (makes_left l a e.just)

-- there is none where even four of the heaviest are too light
pub none_heavy :
    {r : Rule} {ws as' : List ℕ} {x h : ℕ} {cs : Choice} → Left r ws as' x → 4 * h < x →
    ((i : ℕ) → i < length (free_of r.age ws as') → get_or (free_of r.age ws as') i 0 ≤ x → get_or (free_of r.age ws as') i 0 ≤ h) → Easy r ws as' cs → ⊥
none_heavy {r} {ws} {as'} {x} {h} {cs} l light each e =
    let a = apart r ws as' cs l.paired e.fitting in
    let le : x ≤ 4 * h = few_le (makes_left l a e.just) (omega (arith, a.parts.counts, e.few)) each in
    omega arith
