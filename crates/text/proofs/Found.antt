-- A number that is found after its blank.
use Rattle.std.proofs.Common.{◌≡◌, ℕ, ◌-◌, ◌<◌, List, [], ◌∷◌, ◌++◌, length, get_or, take, drop, sym, refl, ap, ◌∙◌, arith, take-append-drop}
use Rattle.std.proofs.ByRecursion.{All-from_get_or}
use Rattle.std.proofs.lemmas.List.{length-take-le, get_or-take}
use Rattle.std.proofs.lemmas.Slice.{first_rest}
use Rattle.std.proofs.lemmas.Str.Parse.{digit_at}
use Rattle.std.specs.Str.Parse.{AllDigits, digits_value}
use Rattle.std.specs.Int.{IsInRange}
use Rattle.std.specs.List.{AllByRecursion as All}
use Rattle.text.specs.Scanning.{Figures, Begins}
use Rattle.text.specs.Written.{numeral, spaced}
use Rattle.text.proofs.Cuts.{Outside, same_cut, cut_at, tail}
use Rattle.text.proofs.Numerals.{digits_numeral, numeral_some, numeral_first, numeral_value, same_number}

-- what does not begin with a blank is no number
pub no_blank : (bs : List ℕ) → (0 < length bs → get_or bs 0 0 ≡ 32 → ⊥) → (ns : List ℕ) → bs ≡ spaced ns → ns ≡ []
no_blank bs other [] e = refl
no_blank bs other (n ∷ ns) e = absurd (other (omega (arith, ap length e)) (ap (λ l. get_or l 0 0) e))

pub after_blank : (bs : List ℕ) → 0 < length bs → get_or bs 0 0 ≡ 32 → bs ≡ 32 ∷ take (length bs - 1) (drop 1 bs)
after_blank bs some blank = first_rest bs 0 some ∙ ap (λ b. b ∷ take (length bs - 1) (drop 1 bs)) blank

pub outside_spaced : (P : ℕ → Type 0) → (P 32 → ⊥) → (ns : List ℕ) → Outside P (spaced ns)
outside_spaced P other [] = tt
outside_spaced P other (n ∷ ns) = other

no_digit_spaced : (ns : List ℕ) → Outside (IsInRange 48 57) (spaced ns)
no_digit_spaced = outside_spaced (IsInRange 48 57) (λ h. absurd (omega (arith, h.0)))

-- numbers are written in one way
pub same_spaced : (ms ns : List ℕ) → spaced ms ≡ spaced ns → ms ≡ ns
same_spaced [] [] e = refl
same_spaced [] (n ∷ ns) e = absurd (omega (arith, ap length e))
same_spaced (m ∷ ms) [] e = absurd (omega (arith, ap length e))
same_spaced (m ∷ ms) (n ∷ ns) e =
    let r = same_cut (IsInRange 48 57) (numeral m) (numeral n) (spaced ms) (spaced ns) (digits_numeral m) (digits_numeral n) (no_digit_spaced ms) (no_digit_spaced ns) (tail e) in
    (λ i. same_number m n r.0 i ∷ same_spaced ms ns r.1 i)

all_digits : (ds : List ℕ) → AllDigits 10 ds → All (IsInRange 48 57) ds
all_digits ds h = All-from_get_or (IsInRange 48 57) ds 0 (λ i lt. digit_at ds i h lt)

module _ (bs : List ℕ) (v n : ℕ) (f : Figures bs v n) where
  cut_number : (k : ℕ) (ks : List ℕ) → bs ≡ numeral k ++ spaced ks → (take n bs ≡ numeral k) × (drop n bs ≡ spaced ks)
  cut_number k ks e = cut_at (IsInRange 48 57) bs (numeral k) (spaced ks) n (all_digits (take n bs) f.digits) f.stops (digits_numeral k) (no_digit_spaced ks) e

  -- no digit stands behind the blank, or a 0 before others
  pub no_number : ((k : ℕ) → take n bs ≡ numeral k → ⊥) → (ns : List ℕ) → 32 ∷ bs ≡ spaced ns → ns ≡ []
  no_number other [] e = refl
  no_number other (k ∷ ks) e = absurd (other k (cut_number k ks (tail e)).0)

  pub no_digit : n ≡ 0 → (k : ℕ) → take n bs ≡ numeral k → ⊥
  no_digit none k e = omega (arith, numeral_some k, ap length e, length-take-le n bs f.within)

  pub leading_zero : 1 < n → get_or bs 0 0 ≡ 48 → (k : ℕ) → take n bs ≡ numeral k → ⊥
  leading_zero two zero k e =
      omega (arith, ap length e, length-take-le n bs f.within, numeral_first k (sym (ap (λ l. get_or l 0 0) e) ∙ get_or-take n bs 0 0 (omega arith) ∙ zero))

  module _ (some : 0 < n) (plain : get_or bs 0 0 ≡ 48 → n ≡ 1) where
    is_number : take n bs ≡ numeral (digits_value 10 (take n bs))
    is_number =
        let long = length-take-le n bs f.within in
        sym (numeral_value (take n bs) f.digits (omega arith) (λ e. long ∙ plain (sym (get_or-take n bs 0 0 some) ∙ e)))

    only : (ns : List ℕ) → 32 ∷ bs ≡ spaced ns → (ms : List ℕ) × (ns ≡ digits_value 10 (take n bs) ∷ ms) × (drop n bs ≡ spaced ms)
    only [] e = absurd (omega (arith, ap length e))
    only (k ∷ ks) e =
        let r = cut_number k ks (tail e) in
        (ks, (λ i. same_number k (digits_value 10 (take n bs)) (sym r.0 ∙ is_number) i ∷ ks), r.1)

    begins : Begins (32 ∷ bs) v (drop n bs)
    begins = record {
      number = digits_value 10 (take n bs);
      kept = f.kept;
      split = ap (λ l. 32 ∷ l) (sym (take-append-drop n bs) ∙ ap (λ l. l ++ drop n bs) is_number);
      only = only;
    }

    pub begins_at : (text rest : List ℕ) → text ≡ 32 ∷ bs → rest ≡ drop n bs → Begins text v rest
    begins_at text rest whole back = rw (whole, back) begins
