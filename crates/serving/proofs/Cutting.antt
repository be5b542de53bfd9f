-- The first line of some bytes.
use Rattle.std.proofs.Common.{◌≡◌, ◌∙◌, ◌≢◌, ℕ, ◌==◌, Bool, true, false, true≢false, List, [], ◌∷◌, ◌++◌, ◌⊎◌, inl, inr, Option, Some, None, refl, sym, ap, subst}
use Rattle.std.proofs.lemmas.Bool.{eqb-true}
use Rattle.std.proofs.lemmas.List.{append_cancel_right}
use Rattle.std.specs.Io.BufRead.{take_through, drop_through, DropsThrough}
use Rattle.std.specs.Io.KnownBytes.{IsAtEnd}
use Rattle.std.specs.Prelude.{IfSome}
use Rattle.serving.specs.Lines.{lines_of, onto_first, FeedCut, Left, Whole}

-- the first line of xs ends with a line feed
pub record Fed (xs : List ℕ) : Type 0 where
  pub front : List ℕ
  pub line : take_through 10 xs ≡ front ++ 10 ∷ []
  pub lines : lines_of xs ≡ front ∷ lines_of (drop_through 10 xs)

-- xs has no line feed
pub record Unfed (xs : List ℕ) : Type 0 where
  pub whole : take_through 10 xs ≡ xs
  pub rest : drop_through 10 xs ≡ []
  pub lines : (xs ≡ []) ⊎ (lines_of xs ≡ xs ∷ [])
  pub unfed : (front : List ℕ) → xs ≢ front ++ 10 ∷ []

head_of : List ℕ → ℕ
head_of [] = 0
head_of (x ∷ xs) = x

tail_of : List ℕ → List ℕ
tail_of [] = []
tail_of (x ∷ xs) = xs

is_nil : List ℕ → Bool
is_nil [] = true
is_nil (x ∷ xs) = false

nil_unfed : (front : List ℕ) → [] ≢ front ++ 10 ∷ []
unfolding is_nil
nil_unfed [] e = true≢false (ap is_nil e)
nil_unfed (x ∷ xs) e = true≢false (ap is_nil e)

more_unfed : (x : ℕ) (xs : List ℕ) → (x == 10) ≡ false → ((front : List ℕ) → xs ≢ front ++ 10 ∷ []) → (front : List ℕ) → x ∷ xs ≢ front ++ 10 ∷ []
unfolding head_of tail_of
more_unfed x xs e unfed [] same = true≢false (sym (ap (λ b. head_of b == 10) same) ∙ e)
more_unfed x xs e unfed (y ∷ ys) same = unfed ys (ap tail_of same)

pub cut : (xs : List ℕ) → Fed xs ⊎ Unfed xs
cut [] = inr (record { whole = refl; rest = refl; lines = inl refl; unfed = nil_unfed })
cut (x ∷ xs) = at (x == 10) refl (cut xs)
  where
    more : (x == 10) ≡ false → Fed xs ⊎ Unfed xs → Fed (x ∷ xs) ⊎ Unfed (x ∷ xs)
    more e (inl f) = inl (record { front = x ∷ f.front; line = rw e (ap (λ l. x ∷ l) f.line); lines = rw e (ap (onto_first x) f.lines) })
    more e (inr u) =
        inr (record {
          whole = rw e (ap (λ l. x ∷ l) u.whole);
          rest = rw e u.rest;
          lines = inr (rw e (alone u.lines));
          unfed = more_unfed x xs e u.unfed;
        })
      where
        alone : (xs ≡ []) ⊎ (lines_of xs ≡ xs ∷ []) → onto_first x (lines_of xs) ≡ (x ∷ xs) ∷ []
        alone (inl none) = rw none refl
        alone (inr one) = ap (onto_first x) one

    at : (b : Bool) → (x == 10) ≡ b → Fed xs ⊎ Unfed xs → Fed (x ∷ xs) ⊎ Unfed (x ∷ xs)
    at true e c = inl (record { front = []; line = rw e (ap (λ b. b ∷ []) (eqb-true x 10 e)); lines = rw e refl })
    at false e c = more e c

pub next_left : (input rest : Option (List ℕ)) (front read line : List ℕ) → front ≡ [] → IfSome input (λ xs. read ≡ front ++ take_through 10 xs) → DropsThrough input rest 10 → read ≢ [] → FeedCut read line → Left input rest (line ∷ [])
next_left None rest front read line none taken dropped some end = tt
next_left (Some xs) rest front read line none taken dropped some end =
    subst (λ r. Left (Some xs) r (line ∷ [])) (sym dropped) (by (taken ∙ ap (λ l. l ++ take_through 10 xs) none) (cut xs) end)
  where
    last : read ≡ xs → (xs ≡ []) ⊎ (lines_of xs ≡ xs ∷ []) → line ≡ read → lines_of xs ≡ line ∷ []
    last all (inl e) same = absurd (some (all ∙ e))
    last all (inr one) same = one ∙ ap (λ l. l ∷ []) (sym all ∙ sym same)

    by : read ≡ take_through 10 xs → Fed xs ⊎ Unfed xs → FeedCut read line → lines_of xs ≡ line ∷ lines_of (drop_through 10 xs)
    by is (inl f) (inl e) = f.lines ∙ ap (λ l. l ∷ lines_of (drop_through 10 xs)) (append_cancel_right f.front line (10 ∷ []) (sym f.line ∙ sym is ∙ e))
    by is (inl f) (inr e) = absurd (e.1 f.front (is ∙ f.line))
    by is (inr u) (inl e) = absurd (u.unfed line (sym u.whole ∙ sym is ∙ e))
    by is (inr u) (inr e) = rw u.rest (last (is ∙ u.whole) u.lines e.0)

pub all_read : (input : Option (List ℕ)) → IsAtEnd input → Whole input []
all_read None end = tt
all_read (Some xs) end = ap lines_of end
