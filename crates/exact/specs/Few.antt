-- Choices of exactly k of some pans. Assumes nothing: these are definitions.
--   Makes      cs opens k pans and weighs x
--   Never      no choice of k pans weighs x
--   First      of the choices of k pans that weigh x, cs is the one that opens the first pan that differs
--   Picked     that choice has this number
--   Picks      its number; None: there is no such choice
--   Heads      some choice of pan i and k later pans weighs x
--   LeadsAt    i is the first such pan
--   Leads      the first such pan; None: there is none
--   Tells      byte x says how few of the last pans are enough for k of them to weigh x; more than there are pans: none do
--   Sums       some pan weighs x together with `first`
--   Marked     the bytes at which P holds are set, all others stay; of the last byte nothing is said
--   ChosenAt   the choice of the fewest pans that weighs x, of at most `most`, has this number
--   Chosen     its number; None: no choice of at most `most` and at most four pans weighs x
use Rattle.std.specs.Prelude.{◌≡◌, ℕ, suc, ◌+◌, ◌-◌, ◌<◌, ◌≤◌, ◌⊎◌, List, length, drop, false, Some, None, Option, slice_index}
use Rattle.choices.specs.Choice.{Choice, weight_of, opened}
use Rattle.choices.specs.Numbered.{number_of}
use Rattle.order.specs.Order.{first_more}

pub record Makes (k : ℕ) (ws : List ℕ) (x : ℕ) (cs : Choice) : Type 0 where
  pub whole : length cs ≡ length ws
  pub counts : opened cs ≡ k
  pub weighs : weight_of ws cs ≡ x

abbrev pub Never : ℕ → List ℕ → ℕ → Type 0
Never k ws x = (cs : Choice) → Makes k ws x cs → ⊥

pub record First (k : ℕ) (ws : List ℕ) (x : ℕ) (cs : Choice) : Type 0 where
  pub makes : Makes k ws x cs
  pub first : (ds : Choice) → Makes k ws x ds → first_more ds cs ≡ false

pub record Picked (k : ℕ) (ws : List ℕ) (x number : ℕ) : Type 0 where
  pub choice : Choice
  pub first : First k ws x choice
  pub is : number ≡ number_of choice

abbrev pub Picks : ℕ → List ℕ → ℕ → Option ℕ → Type 0
Picks k ws x None = Never k ws x
Picks k ws x (Some number) = Picked k ws x number

pub record Heads (k : ℕ) (ws : List ℕ) (x i : ℕ) : Type 0 where
  pub within : i < length ws
  pub light : slice_index ws i ≤ x
  pub rest : Choice
  pub makes : Makes k (drop (suc i) ws) (x - slice_index ws i) rest

pub record LeadsAt (k : ℕ) (ws : List ℕ) (x i : ℕ) : Type 0 where
  pub heads : Heads k ws x i
  pub earlier : (j : ℕ) → j < i → Heads k ws x j → ⊥

abbrev pub Leads : ℕ → List ℕ → ℕ → Option ℕ → Type 0
Leads k ws x None = (i : ℕ) → Heads k ws x i → ⊥
Leads k ws x (Some i) = LeadsAt k ws x i

pub record Tells (k : ℕ) (ws bytes : List ℕ) : Type 0 where
  pub made : (i x : ℕ) → i ≤ length ws → x + 1 < length bytes → slice_index bytes x ≤ length ws - i → (cs : Choice) × Makes k (drop i ws) x cs
  pub least : (i x : ℕ) (cs : Choice) → i ≤ length ws → x + 1 < length bytes → Makes k (drop i ws) x cs → slice_index bytes x ≤ length ws - i
  pub nothing : length ws < slice_index bytes 0

pub record Sums (first : ℕ) (ws : List ℕ) (x : ℕ) : Type 0 where
  pub pan : ℕ
  pub within : pan < length ws
  pub is : first + slice_index ws pan ≡ x

pub record Marked (P : ℕ → Type 0) (byte : ℕ) (before after : List ℕ) : Type 0 where
  pub set : (x : ℕ) → x + 1 < length before → P x → slice_index after x ≡ byte
  pub kept : (x : ℕ) → x + 1 < length before → (slice_index after x ≡ slice_index before x) ⊎ ((slice_index after x ≡ byte) × P x)

pub record ChosenAt (most : ℕ) (ws : List ℕ) (x number : ℕ) : Type 0 where
  pub count : ℕ
  pub within : count ≤ most
  pub fewer : (j : ℕ) → j < count → Never j ws x
  pub picked : Picked count ws x number

abbrev pub Chosen : ℕ → List ℕ → ℕ → Option ℕ → Type 0
Chosen most ws x None = (k : ℕ) → k ≤ most → k ≤ 4 → Never k ws x
Chosen most ws x (Some number) = ChosenAt most ws x number
