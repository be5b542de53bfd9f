-- The windows that are read from a rule.
use Rattle.std.proofs.Common.{◌≡◌, ℕ, zero, suc, ◌+◌, ◌<◌, ◌≤◌, List, length, get_or, take, sym, refl, ap, ◌∙◌, arith}
use Rattle.std.proofs.lemmas.List.{length-take-le, get_or-take, get_or_default, same_lists}
use Rattle.kinds.specs.Kinds.{no_window}
use Rattle.kinds.specs.declared.mixed.Window.{Window}
use Rattle.mixing.specs.Windows.{window_at, windows_at}

pub length-windows_at : (rs : List ℕ) (k m : ℕ) → length (windows_at rs k m) ≡ m
length-windows_at rs k zero = refl
length-windows_at rs k (suc m) = ap suc (length-windows_at rs (k + 1) m)

windows_at_at : (rs : List ℕ) (k m i : ℕ) (d : Window) → i < m → get_or (windows_at rs k m) i d ≡ window_at rs (k + i)
windows_at_at rs k zero i d l = absurd (omega arith)
windows_at_at rs k (suc m) zero d l = ap (window_at rs) {y = k + 0} (omega arith)
windows_at_at rs k (suc m) (suc i) d l = windows_at_at rs (k + 1) m i d (omega arith) ∙ ap (window_at rs) {y = k + suc i} (omega arith)

pub taken_windows :
    (rs : List ℕ) (m : ℕ) (vs : List Window) → m ≤ length vs → ((k : ℕ) → k < m → get_or vs k no_window ≡ window_at rs k) → take m vs ≡ windows_at rs 0 m
taken_windows rs m vs room each =
    let long : length (take m vs) ≡ m = length-take-le m vs room in
    same_lists _ _ (long ∙ sym (length-windows_at rs 0 m))
    (λ k d l.
    let h : k < m = omega (arith, long) in
    get_or-take m vs k d h ∙ (get_or_default vs k d no_window (omega (arith, room)) ∙ (each k h ∙ (ap (window_at rs) {y = 0 + k} (omega arith) ∙ sym (windows_at_at rs 0 m k d h)))))
