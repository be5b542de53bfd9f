-- A loop that changes a number of each pan by whether the pan is opened, in place.
use Rattle.std.proofs.Common.{◌≡◌, ℕ, suc, ◌+◌, ◌-◌, ◌/◌, ◌<◌, ◌≤◌, Bool, List, [], ◌∷◌, ◌++◌, length, get_or, take, drop, set, sym, ap, ◌∙◌, arith}
use Rattle.std.proofs.lemmas.List.{append_assoc, append-nil, length-set, take_more_set, drop-set-lt, drop_more, take_all, drop_all}
use Rattle.choices.specs.Choice.{marked}
use Rattle.choices.specs.Numbered.{choice_from, odd}

-- what is done, then what is still to do of the bag's number
abbrev pub marking : (Bool → ℕ → ℕ) → List ℕ → (i p : ℕ) → List ℕ
marking f xs i p = take i xs ++ marked f (drop i xs) (choice_from (length xs - i) p)

pub marking_none : (f : Bool → ℕ → ℕ) (xs : List ℕ) (p : ℕ) → marking f xs 0 p ≡ marked f xs (choice_from (length xs) p)
marking_none f xs p = let e : length xs - 0 ≡ length xs = omega arith in rw e

pub marking_more :
    (f : Bool → ℕ → ℕ) (xs : List ℕ) (i p y : ℕ) → i < length xs → y ≡ f (odd p) (get_or xs i 0) →
    marking f (set xs i y) (i + 1) (p / 2) ≡ marking f xs i p
marking_more f xs i p y l e =
    rw (take_more_set xs i y l, drop-set-lt (i + 1) xs i y (omega arith), length-set xs i y, append_assoc (take i xs) (y ∷ []) (marked f (drop (i + 1) xs) (choice_from (length xs - (i + 1)) (p / 2))))
    (ap (λ (zs : List ℕ). take i xs ++ zs) (ap (λ (x : ℕ). x ∷ marked f (drop (i + 1) xs) (choice_from (length xs - (i + 1)) (p / 2))) e ∙ sym here))
  where
    size : length xs - i ≡ suc (length xs - (i + 1))
    size = omega arith

    here : marked f (drop i xs) (choice_from (length xs - i) p) ≡ f (odd p) (get_or xs i 0) ∷ marked f (drop (i + 1) xs) (choice_from (length xs - (i + 1)) (p / 2))
    here = rw (drop_more xs i 0 l, size)

pub marking_all : (f : Bool → ℕ → ℕ) (xs : List ℕ) (i p : ℕ) → length xs ≤ i → marking f xs i p ≡ xs
marking_all f xs i p l = rw (take_all i xs l, drop_all i xs l) (append-nil xs)
