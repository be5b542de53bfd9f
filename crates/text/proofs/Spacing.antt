-- What is known of numbers that stand each after a blank.
use Rattle.std.proofs.Common.{◌≡◌, ℕ, ◌+◌, ◌<◌, List, [], ◌∷◌, ◌++◌, length, get_or, take, sym, refl, ap, ◌∙◌, append_assoc}
use Rattle.std.proofs.lemmas.List.{take_more}
use Rattle.text.specs.Written.{numeral, spaced}

pub spaced_append : (ms ns : List ℕ) → spaced (ms ++ ns) ≡ spaced ms ++ spaced ns
spaced_append [] ns = refl
spaced_append (m ∷ ms) ns = ap (λ l. 32 ∷ l) (ap (λ l. numeral m ++ l) (spaced_append ms ns) ∙ sym (append_assoc (numeral m) (spaced ms) (spaced ns)))

pub spaced_more : (ns : List ℕ) (i : ℕ) → i < length ns → spaced (take i ns) ++ spaced (get_or ns i 0 ∷ []) ≡ spaced (take (i + 1) ns)
spaced_more ns i h = sym (ap spaced (take_more ns i 0 h) ∙ spaced_append (take i ns) (get_or ns i 0 ∷ []))
