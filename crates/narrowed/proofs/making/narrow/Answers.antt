-- What is left of the proof that a ring is narrowed.
use Rattle.std.proofs.Common.{◌≡◌, ℕ, ◌||◌, ◌/◌, ◌^◌, ◌<◌, length, get_or, leb, cond, refl, arith, rules}
use Rattle.choices.specs.Numbered.{odd}
use Rattle.choices.proofs.Counted.{length_choice_from}
use Rattle.choices.proofs.Made.{made_each, made_low}
use Rattle.choices.proofs.Marked.{marked_made}
use Rattle.narrowed.proofs.making.narrow.Goals as goal

pub invariant_of-result : goal.invariant_of-result
invariant_of-result c =
    let ring = c.args.ring in
    record {
      ruled = record { some = ring.ruled.some; target = ring.ruled.target; above = ring.ruled.above; pans = ring.ruled.pans; age = omega arith };
      present = ring.ordered.present;
      few = ring.ordered.few;
      wide = c.from_fn-weights.ensures.items.long;
      high = c.from_fn-marks.ensures.items.long;
      light = made_low c.from_fn-weights.ensures.items 1000000 (λ x r q called. search rules);
      young = made_low c.from_fn-marks.ensures.items 1 (λ x r q called. search rules);
    }

pub returns : goal.returns
returns c =
    let ring = c.args.ring in
    let ws = ring.weights.now in
    let n = length ws in
    let W : ℕ → ℕ → Type 0 = λ k x. k < n → x ≡ cond (odd (c.args.taken / 2 ^ k)) 0 (get_or ws k 0) in
    let M : ℕ → ℕ → Type 0 = λ k x. k < n → x ≡ cond (odd (c.args.forced / 2 ^ k) || leb ring.rule.age (get_or ring.ages.now k 0)) 1 0 in
    record {
      rule = refl;
      pans = refl;
      weights = marked_made _ ws n c.args.taken _ refl (omega (arith, ring.ordered.few, c.from_fn-weights.ensures.items.long)) (λ k d l. made_each c.from_fn-weights.ensures.items W (λ x r q called. search rules) k d (omega (arith, ring.ordered.few)) l);
      marks = marked_made _ ring.ages.now n c.args.forced _ ring.ordered.paired (omega (arith, ring.ordered.few, c.from_fn-marks.ensures.items.long)) (λ k d l. made_each c.from_fn-marks.ensures.items M (λ x r q called. search rules) k d (omega (arith, ring.ordered.few)) l);
      paired = ring.ordered.paired;
      taken = length_choice_from n c.args.taken;
      forced = length_choice_from n c.args.forced;
    }
