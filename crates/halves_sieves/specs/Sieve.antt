-- What a part of the pans keeps. Assumes nothing: these are definitions.
--   part         `len` items of a list, behind the first `skip`
--   Bounded      a choice of all pans opens at most as many as the bounds allow, and weighs enough
--   Most         `most`, by a count of pans, is the most that so many pans weigh together
--   Short        `short`, by a count of pans, is no more than the part of any choice within the bounds weighs, as a place
--   Kept         an entry is no less than `short` says for its count of pans
--   Sieved       the first r entries are those of the first n that are kept, sorted; behind the n nothing changes
--   Thinned      the first r entries are some of the first n, sorted, with each that is part of a choice within the bounds;
--                behind the n nothing changes
use Rattle.std.specs.Prelude.{◌≡◌, ℕ, ◌+◌, ◌*◌, ◌^◌, ◌<◌, ◌≤◌, List, length, take, drop, slice_index}
use Rattle.choices.specs.Choice.{Choice, weight_of, opened}
use Rattle.halves_places.specs.Place.{place, pans_in}
use Rattle.halves_growth.specs.Entries.{Rises, Holds}
use Rattle.halves_sieves.specs.declared.bounds.Bounds.{Bounds}

abbrev pub part : {X : Type 0} → ℕ → ℕ → List X → List X
part skip len xs = take len (drop skip xs)

pub record Bounded (lim : Bounds) (ws : List ℕ) (cs : Choice) : Type 0 where
  pub whole : length cs ≡ length ws
  pub few : opened cs ≤ lim.limit
  pub enough : lim.least ≤ weight_of ws cs

abbrev pub Most : List ℕ → List ℕ → Type 0
Most us most = (cs : Choice) (r : ℕ) → length cs ≡ length us → opened cs ≤ r → r < 25 → weight_of us cs ≤ slice_index most r

abbrev pub Short : Bounds → List ℕ → ℕ → ℕ → List ℕ → Type 0
Short lim ws skip len short = (cs : Choice) → Bounded lim ws cs → slice_index short (opened (part skip len cs)) ≤ weight_of (part skip len ws) (part skip len cs) * 2 ^ 29

abbrev pub Kept : List ℕ → ℕ → Type 0
Kept short e = slice_index short (pans_in e) ≤ e

pub record Sieved (short old es : List ℕ) (n r : ℕ) : Type 0 where
  pub fewer : r ≤ n
  pub rises : Rises es r
  pub keeps : (p : ℕ) → p < n → Kept short (slice_index old p) → Holds es r (slice_index old p)
  pub only : (q : ℕ) → q < r → Holds old n (slice_index es q)
  pub lean : (q : ℕ) → q < r → Kept short (slice_index es q)
  pub rest : (p : ℕ) → n ≤ p → slice_index es p ≡ slice_index old p

pub record Thinned (lim : Bounds) (ws : List ℕ) (skip len : ℕ) (old es : List ℕ) (n r : ℕ) : Type 0 where
  pub fewer : r ≤ n
  pub rises : Rises es r
  pub keeps : (b : ℕ) (cs : Choice) → b + len ≤ 24 → Bounded lim ws cs → Holds old n (place b (part skip len ws) (part skip len cs)) → Holds es r (place b (part skip len ws) (part skip len cs))
  pub only : (q : ℕ) → q < r → Holds old n (slice_index es q)
  pub rest : (p : ℕ) → n ≤ p → slice_index es p ≡ slice_index old p
