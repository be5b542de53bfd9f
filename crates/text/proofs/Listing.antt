-- Numbers that are found one after another.
use Rattle.std.proofs.Common.{◌≡◌, ℕ, ◌≤◌, List, [], ◌∷◌, ◌++◌, map, length, refl, sym, ap, ◌∙◌, append_assoc, append-nil, arith}
use Rattle.std.proofs.lemmas.List.{map_push}
use Rattle.text.specs.Scanning.{capped, Begins}
use Rattle.text.specs.Written.{numeral, spaced}
use Rattle.text.proofs.Spacing.{spaced_append}

pub empty_of : (ns : List ℕ) → length ns ≡ 0 → ns ≡ []
empty_of [] e = refl
empty_of (n ∷ ns) e = absurd (omega (arith, e))

-- kept is what is kept of the numbers before rest, and no numbers are written so but with rest at their end
pub record Sofar (text kept rest : List ℕ) : Type 0 where
  pub numbers : List ℕ
  pub split : text ≡ spaced numbers ++ rest
  pub items : kept ≡ map capped numbers
  pub only : (ns : List ℕ) → text ≡ spaced ns → (ms : List ℕ) × (ns ≡ numbers ++ ms) × (rest ≡ spaced ms)

pub one_more : (text kept rest : List ℕ) (n : ℕ) (more : List ℕ) → Sofar text kept rest → Begins rest n more → Sofar text (kept ++ n ∷ []) more
one_more text kept rest n more s b = record {
  numbers = s.numbers ++ (b.number ∷ []);
  split =
      s.split
      ∙ ap (λ l. spaced s.numbers ++ l) (b.split ∙ ap (λ l. 32 ∷ (l ++ more)) (sym (append-nil (numeral b.number))))
      ∙ sym (append_assoc (spaced s.numbers) (spaced (b.number ∷ [])) more)
      ∙ ap (λ l. l ++ more) (sym (spaced_append s.numbers (b.number ∷ [])));
  items = (λ i. s.items i ++ (b.kept i ∷ [])) ∙ sym (map_push capped s.numbers b.number);
  only = λ ns e.
      let q = s.only ns e in
      let r = b.only q.0 q.2 in
      (r.0, q.1 ∙ ap (λ l. s.numbers ++ l) r.1 ∙ sym (append_assoc s.numbers (b.number ∷ []) r.0), r.2);
}

-- one number and nothing behind it
pub one_of : (text rest : List ℕ) (n : ℕ) → Begins text n rest → rest ≡ [] → (ns : List ℕ) × (text ≡ spaced ns) × (n ∷ [] ≡ map capped ns)
one_of text rest n b none = (b.number ∷ [], b.split ∙ ap (λ l. 32 ∷ (numeral b.number ++ l)) none, ap (λ k. k ∷ []) b.kept)

module _ (text mid rest : List ℕ) (m n : ℕ) (b : Begins text m mid) (c : Begins mid n rest) where
  -- two numbers and nothing behind them
  pub two_of : rest ≡ [] → (ns : List ℕ) × (text ≡ spaced ns) × (m ∷ n ∷ [] ≡ map capped ns)
  two_of none =
      (b.number ∷ c.number ∷ [], b.split ∙ ap (λ l. 32 ∷ (numeral b.number ++ l)) (c.split ∙ ap (λ l. 32 ∷ (numeral c.number ++ l)) none), λ i. b.kept i ∷ c.kept i ∷ [])

  -- something stands behind two numbers
  pub more_than_two : (rest ≡ [] → ⊥) → (ns : List ℕ) → length ns ≤ 2 → text ≡ spaced ns → ⊥
  more_than_two some ns few e =
      let q = b.only ns e in
      let r = c.only q.0 q.2 in
      some (r.2 ∙ ap spaced (empty_of r.0 (omega (arith, ap length q.1, ap length r.1, few))))
