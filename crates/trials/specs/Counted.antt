-- Cases that are counted. Assumes nothing: these are definitions.
--   one_more   a count with one case more, which stops at the largest number of 32 bits
--   Noted      a case more was tried, and counts among those that agree where it agreed
use Rattle.std.specs.Prelude.{◌≡◌, ℕ, ◌+◌, ◌-◌, ◌^◌, min, Bool, cond}

abbrev pub one_more : ℕ → ℕ
one_more n = min (n + 1) (2 ^ 32 - 1)

pub record Noted (agreed : Bool) (tried agree tried₁ agree₁ : ℕ) : Type 0 where
  pub tries : tried₁ ≡ one_more tried
  pub agrees : agree₁ ≡ cond agreed (one_more agree) agree
