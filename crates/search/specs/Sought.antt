-- What a search over numbered candidates knows, whatever is allowed and whatever beats what. Assumes nothing: these are
-- definitions.
--   Leads      b is below n and allowed, and no allowed candidate below n beats it
--   Sought     the best of all candidates below n; None: none of them is allowed
--   Passes     candidate k can be skipped: it is not allowed, or does not beat the best so far
--   Behind     the best so far, if there is one, is below n
use Rattle.std.specs.Prelude.{◌≡◌, ℕ, ◌<◌, Bool, true, false, Some, None, Option}

pub record Leads (allows : ℕ → Bool) (beats : ℕ → ℕ → Bool) (n b : ℕ) : Type 0 where
  pub below : b < n
  pub allowed : allows b ≡ true
  pub unbeaten : (k : ℕ) → k < n → allows k ≡ true → beats k b ≡ false

abbrev pub Sought : (ℕ → Bool) → (ℕ → ℕ → Bool) → ℕ → Option ℕ → Type 0
Sought allows beats n None = (k : ℕ) → k < n → allows k ≡ false
Sought allows beats n (Some b) = Leads allows beats n b

abbrev pub Passes : (ℕ → Bool) → (ℕ → ℕ → Bool) → Option ℕ → ℕ → Type 0
Passes allows beats None k = allows k ≡ false
Passes allows beats (Some b) k = allows k ≡ true → beats k b ≡ false

abbrev pub Behind : ℕ → Option ℕ → Type 0
Behind n None = Unit {0}
Behind n (Some b) = b < n
