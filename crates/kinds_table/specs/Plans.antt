-- What each kind may weigh. Assumes nothing: these are definitions.
--   wide_of      the words of a row for each weight up to `top`, with a block before it
--   room_of      the words of room for so many kinds: a row for each, and one for each as they are joined
--   lot_of       the pans of a ring whose pans have kinds
--   shut         a window for nothing at all
--   Cut          each kind's least and most weight: its window's, or what those of all others leave of the target and of the top
--   BasedOn      b is the sum of the leasts of so many kinds, none of which is above its most
--   Based        that sum; None: one is above its most
--   Laid         what is known of a plan by itself
--   Plans        the plan lets each kind weigh no less and no more than its window does, and leaves out no weight that a
--                choice may have that fits and has so much of each kind
--   Planned      such a plan; None: no such choice
use Rattle.std.specs.Prelude.{◌≡◌, ℕ, ◌+◌, ◌-◌, ◌*◌, ◌/◌, ◌^◌, ◌<◌, ◌≤◌, min, max, true, List, length, Some, None, Option, slice_index, slice_index_or}
use Rattle.choices.specs.Choice.{Choice}
use Rattle.order.specs.Order.{NoneOf}
use Rattle.choices.specs.declared.rule.Rule.{Rule}
use Rattle.kinds.specs.Kinds.{mixes, weight_of_kind}
use Rattle.kinds.specs.declared.mixed.Window.{Window}
use Rattle.kinds_table.specs.Costs.{Lot}
use Rattle.kinds_table.specs.Rows.{sum_below}
use Rattle.kinds_table.specs.declared.plan.Plan.{Plan}

abbrev pub wide_of : ℕ → ℕ
wide_of top = 16 * (top / 16 + 2)

abbrev pub room_of : Rule → (kinds : ℕ) → ℕ
room_of r kinds = 2 * kinds * wide_of (r.target + r.above)

abbrev pub lot_of : Rule → (kinds weights ages : List ℕ) → Lot
lot_of r ks ws as' = record { old = r.age; kinds = ks; weights = ws; ages = as' }

abbrev pub shut : Window
shut = record { least = 0; most = 0 }

pub record Cut (r : Rule) (vs : List Window) (lows tops : List ℕ) : Type 0 where
  pub least : (k : ℕ) → k < length vs → slice_index lows k ≡ max (slice_index_or vs k shut).least (r.target - (sum_below (λ j. (slice_index_or vs j shut).most) (length vs) - (slice_index_or vs k shut).most))
  pub most : (k : ℕ) → k < length vs →
      slice_index tops k ≡ min (slice_index_or vs k shut).most (r.target + r.above - (sum_below (λ j. (slice_index_or vs j shut).least) (length vs) - (slice_index_or vs k shut).least))
  pub no_least : (k : ℕ) → length vs ≤ k → slice_index lows k ≡ 0
  pub no_most : (k : ℕ) → length vs ≤ k → slice_index tops k ≡ 0
  pub small : (k : ℕ) → slice_index lows k ≤ 2 ^ 32

pub record BasedOn (least most : ℕ → ℕ) (kinds b : ℕ) : Type 0 where
  pub is : b ≡ sum_below least kinds
  pub some : (k : ℕ) → k < kinds → least k ≤ most k

abbrev pub Based : (least most : ℕ → ℕ) → (kinds : ℕ) → Option ℕ → Type 0
Based least most kinds None = (k : ℕ) × (k < kinds) × (most k < least k)
Based least most kinds (Some b) = BasedOn least most kinds b

pub record Laid (p : Plan) : Type 0 where
  pub present : 1 ≤ p.kinds
  pub few : p.kinds ≤ 4
  pub low : p.base + p.span ≤ 50000000
  pub wide : p.wide ≡ wide_of (p.base + p.span)
  pub base : p.base ≡ sum_below (slice_index p.least) p.kinds
  pub some : (k : ℕ) → slice_index p.least k ≤ slice_index p.most k
  pub top : (k : ℕ) → slice_index p.most k ≤ p.base + p.span

pub record Plans (r : Rule) (vs : List Window) (ks ws as' : List ℕ) (p : Plan) : Type 0 where
  pub laid : Laid p
  pub kinds : p.kinds ≡ length vs
  pub span : p.base + p.span ≡ r.target + r.above
  pub no_less : (k : ℕ) → k < p.kinds → (slice_index_or vs k shut).least ≤ slice_index p.least k
  pub no_more : (k : ℕ) → k < p.kinds → slice_index p.most k ≤ (slice_index_or vs k shut).most
  pub enough : (cs : Choice) → mixes r vs ks ws as' cs ≡ true → (k : ℕ) → k < p.kinds → slice_index p.least k ≤ weight_of_kind k ks ws cs
  pub within : (cs : Choice) → mixes r vs ks ws as' cs ≡ true → (k : ℕ) → k < p.kinds → weight_of_kind k ks ws cs ≤ slice_index p.most k

abbrev pub Planned : Rule → List Window → (kinds weights ages : List ℕ) → Option Plan → Type 0
Planned r vs ks ws as' None = NoneOf (mixes r vs ks ws as')
Planned r vs ks ws as' (Some p) = Plans r vs ks ws as' p
