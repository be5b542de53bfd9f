-- Numbers of the pans, changed by a choice: how many they are, and what each becomes.
use Rattle.std.proofs.Common.{◌≡◌, ℕ, zero, suc, ◌/◌, ◌^◌, ◌<◌, ◌≤◌, Bool, false, List, [], ◌∷◌, length, get_or, take, sym, refl, ap, ◌∙◌, arith}
use Rattle.std.proofs.lemmas.List.{length-take-le, get_or-take, same_lists}
use Rattle.choices.specs.Choice.{Choice, marked}
use Rattle.choices.specs.Numbered.{choice_from, odd}
use Rattle.choices.proofs.Counted.{choice_from_at, length_choice_from}

pub length_marked : (f : Bool → ℕ → ℕ) (xs : List ℕ) (cs : Choice) → length (marked f xs cs) ≡ length xs
length_marked f [] cs = refl
length_marked f (x ∷ xs) [] = refl
length_marked f (x ∷ xs) (c ∷ cs) = ap suc (length_marked f xs cs)

pub marked_at :
    (f : Bool → ℕ → ℕ) (xs : List ℕ) (cs : Choice) (i d e : ℕ) (b : Bool) → length cs ≡ length xs → i < length xs →
    get_or (marked f xs cs) i d ≡ f (get_or cs i b) (get_or xs i e)
marked_at f [] cs i d e b long l = absurd (omega arith)
marked_at f (x ∷ xs) [] i d e b long l = absurd (omega arith)
marked_at f (x ∷ xs) (c ∷ cs) zero d e b long l = refl
marked_at f (x ∷ xs) (c ∷ cs) (suc i) d e b long l = marked_at f xs cs i d e b (omega arith) (omega arith)

-- numbers that were made one by one, by the bits of the choice's number
pub marked_made :
    (f : Bool → ℕ → ℕ) (xs : List ℕ) (n p : ℕ) (made : List ℕ) → length xs ≡ n → n ≤ length made →
    ((k d : ℕ) → k < n → get_or made k d ≡ f (odd (p / 2 ^ k)) (get_or xs k 0)) → take n made ≡ marked f xs (choice_from n p)
marked_made f xs n p made e room each =
    let cs = choice_from n p in
    let long : length (take n made) ≡ n = length-take-le n made room in
    let paired : length cs ≡ length xs = length_choice_from n p ∙ sym e in
    same_lists _ _ (long ∙ sym (length_marked f xs cs ∙ e))
    (λ k d l.
    let below : k < n = omega arith in
    get_or-take n made k d below
    ∙ (each k d below ∙ (ap (λ (b : Bool). f b (get_or xs k 0)) (sym (choice_from_at n p k false below)) ∙ sym (marked_at f xs cs k d 0 false paired (omega arith)))))
