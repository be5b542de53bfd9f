-- One text after another.
use Rattle.std.proofs.Common.{◌≡◌, ℕ, List, [], ◌++◌}
use Rattle.std.specs.declared.fmt.Formatter.{Formatter}
use Rattle.std.specs.Fmt.{IsPlainFormatter, HasWritten}
use Rattle.std.proofs.Output.{has_written_append, has_written_of_eq, writes_in_calls_nil}

module _ {W : Type 0} {took : W → List ℕ → W → Type 0} where
  pub put_none : {f : Formatter W} → IsPlainFormatter f → HasWritten took f [] f
  put_none plain = record { wrote = writes_in_calls_nil took _; plain = plain }

  pub put_then : {f g h : Formatter W} {a b t : List ℕ} → HasWritten took f a g → (IsPlainFormatter g → HasWritten took g b h) → a ++ b ≡ t → HasWritten took f t h
  put_then p q e = has_written_of_eq took _ _ _ _ e (has_written_append took _ _ _ _ _ p (q p.plain))

  pub put_as : {f g : Formatter W} {s t : List ℕ} → HasWritten took f s g → s ≡ t → HasWritten took f t g
  put_as p e = has_written_of_eq took _ _ _ _ e p
