-- What is left of the proof that the tallies of a choice's groups add up to its own.
use Rattle.std.proofs.Common.{◌≡◌, ℕ, ◌+◌, ◌*◌, ◌/◌, ◌%◌, ◌^◌, ◌<◌, ◌≤◌, List, length, get_or, inl, inr, arith}
use Rattle.std.proofs.lemmas.Bool.{cases_lt}
use Rattle.choices.specs.Tallied.{Adds}
use Rattle.choices.specs.declared.ring.Ring.{Ring}
use Rattle.choices.specs.declared.tally.Tally.{Tally}
use Rattle.choices.proofs.Tallies.{tallied_apart}
use Rattle.search.specs.Groups.{TalliedBelow, nothing}
use Rattle.search.proofs.Groups.{TallyOf, first_below, group_below, sum_fits, candidate, six}
use Rattle.search.proofs.tallies.Lent.tally.Goals as goal

-- the parts of the choice k, group by group
module _ (r : Ring) (ts : List Tally) (all : TalliedBelow r (2 ^ length r.weights.now) ts) (k : ℕ) (below : k < 2 ^ length r.weights.now) where
  one : TallyOf r (k % 64) (get_or ts (k % 64) nothing)
  one = first_below r _ ts all (k % 64) (omega arith) (omega arith)

  two : TallyOf r (k / 64 % 64 * 2 ^ 6) (get_or ts (k / 64 % 64 + 64) nothing)
  two = group_below r _ ts all 1 (k / 64 % 64) (omega arith) (omega arith) (omega arith)

  three : TallyOf r (k / 4096 % 64 * 2 ^ 12) (get_or ts (k / 4096 % 64 + 128) nothing)
  three = group_below r _ ts all 2 (k / 4096 % 64) (omega arith) (omega arith) (omega arith)

  few : k < 2 ^ 24
  few = candidate (length r.weights.now) k r.ordered.few below

  four : TallyOf r (k / 262144 * 2 ^ 18) (get_or ts (k / 262144 + 192) nothing)
  four = group_below r _ ts all 3 (k / 262144) (omega arith) (omega (arith, few)) (omega arith)

  -- its last twelve and its last eighteen pans
  twelve : (d : Tally) → Adds (get_or ts (k / 64 % 64 + 64) nothing) (get_or ts (k % 64) nothing) d → TallyOf r (k / 64 % 64 * 2 ^ 6 + k % 64) d
  twelve d = tallied_apart _ _ _ (k / 64 % 64) 6 (k % 64) _ _ d (omega arith) two one

  eighteen :
      (d t : Tally) → TallyOf r (k / 64 % 64 * 2 ^ 6 + k % 64) t → Adds (get_or ts (k / 4096 % 64 + 128) nothing) t d →
      TallyOf r (k / 4096 % 64 * 2 ^ 12 + (k / 64 % 64 * 2 ^ 6 + k % 64)) d
  eighteen d t h = tallied_apart _ _ _ (k / 4096 % 64) 12 (k / 64 % 64 * 2 ^ 6 + k % 64) _ t d (omega arith) three h

  -- of the last six pans alone
  alone : length r.weights.now ≤ 6 → TallyOf r k (get_or ts (k % 64) nothing)
  alone le =
      let few : k < 64 = six (length r.weights.now) k le below in
      let e : k % 64 ≡ k = omega (arith, few) in
      rw e (first_below r _ ts all k few below)

one_group : (n m : ℕ) → (6 < n → 256 ≤ m) → m < 256 → n ≤ 6
one_group n m all lt = elim (cases_lt 6 n) [ inl b ↦ absurd (omega (arith, all b)) | inr le ↦ le ]

pub returns-then-this-lt256 : goal.returns-then-this-lt256
returns-then-this-lt256 g c =
    let s = c.args.self.now in
    alone s.ring s.groups.now s.tallied c.args.choice c.requires (one_group _ _ s.all c.if-this-lt256.true)

pub bounds-self-choice-4 : goal.bounds-self-choice-4
bounds-self-choice-4 g c =
    let s = c.args.self.now in
    omega (arith, c.if-this-lt256.false, few s.ring s.groups.now s.tallied c.args.choice c.requires)

pub and-requires : goal.and-requires
and-requires g c =
    let s = c.args.self.now in
    let k = c.args.choice in
    sum_fits s.ring _ _ _ _ (two s.ring s.groups.now s.tallied k c.requires) (one s.ring s.groups.now s.tallied k c.requires)

pub and-requires-2 : goal.and-requires-2
and-requires-2 g c =
    let s = c.args.self.now in
    let k = c.args.choice in
    sum_fits s.ring _ _ _ _ (three s.ring s.groups.now s.tallied k c.requires) (twelve s.ring s.groups.now s.tallied k c.requires _ c.and.ensures)

pub and-requires-3 : goal.and-requires-3
and-requires-3 g c =
    let s = c.args.self.now in
    let k = c.args.choice in
    sum_fits s.ring _ _ _ _ (four s.ring s.groups.now s.tallied k c.requires)
    (eighteen s.ring s.groups.now s.tallied k c.requires _ _ (twelve s.ring s.groups.now s.tallied k c.requires _ c.and.ensures) c.and-2.ensures)

pub returns : goal.returns
returns g c =
    let s = c.args.self.now in
    let k = c.args.choice in
    let low = k / 4096 % 64 * 2 ^ 12 + (k / 64 % 64 * 2 ^ 6 + k % 64) in
    let whole : k / 262144 * 2 ^ 18 + (k / 4096 % 64 * 2 ^ 12 + (k / 64 % 64 * 2 ^ 6 + k % 64)) ≡ k = omega arith in
    rw whole at
    (tallied_apart _ _ _ (k / 262144) 18 low _ _ _ (omega arith) (four s.ring s.groups.now s.tallied k c.requires)
    (eighteen s.ring s.groups.now s.tallied k c.requires _ _ (twelve s.ring s.groups.now s.tallied k c.requires _ c.and.ensures) c.and-2.ensures) c.and-3.ensures)
