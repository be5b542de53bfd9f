-- The blocks of a row with two pans more, one by one.
use Rattle.std.proofs.Common.{◌≡◌, ℕ, ◌+◌, ◌-◌, ◌*◌, ◌<◌, ◌≤◌, ◌⊎◌, List, get_or, ◌∙◌, inl, inr, arith}
use Rattle.std.proofs.lemmas.Bool.{cases_lt}
use Rattle.table.specs.Rows.{Added, joined, row_at}
use Rattle.table.proofs.Joining.{both_same}

-- the blocks up to `near`, and those from there on
pub added_both :
    {first second row next low near high : ℕ} {bytes bytes' bytes'' : List ℕ} → row + 64 * high ≤ next →
    Added first second row next low near bytes bytes' → Added first second row next near high bytes' bytes'' →
    (x : ℕ) → 64 * low ≤ x → x < 64 * high → row_at bytes'' next x ≡ joined (joined (row_at bytes row) second) first x
added_both {first} {second} {row} {next} {low} {near} {high} {bytes} {bytes'} {bytes''} apart g h x more less = at (cases_lt x (64 * near))
  where
    at : (x < 64 * near) ⊎ (64 * near ≤ x) → row_at bytes'' next x ≡ joined (joined (row_at bytes row) second) first x
    at (inl older) = h.same _ (omega arith) ∙ g.made x more older
    at (inr newer) =
        h.made x newer less
        ∙ both_same (row_at bytes' row) (row_at bytes row) second first x (λ z up. g.same _ (omega (arith, apart)))

-- one block more is written
pub added_more :
    {first second row next low block : ℕ} {bytes bytes' bytes'' : List ℕ} → low ≤ block → row + 64 * (block + 1) ≤ next → Added first second row next low block bytes bytes' →
    ((j : ℕ) → j < next + 64 * block → get_or bytes'' j 0 ≡ get_or bytes' j 0) →
    ((x : ℕ) → x < 64 → row_at bytes'' next (64 * block + x) ≡ joined (joined (row_at bytes' row) second) first (64 * block + x)) →
    Added first second row next low (block + 1) bytes bytes''
added_more {first} {second} {row} {next} {low} {block} {bytes} {bytes'} {bytes''} begun apart h same made =
    record { same = λ j less. same j (omega (arith, begun)) ∙ h.same j less; made = added_both apart h (record { same = same; made = one }) }
  where
    one : (x : ℕ) → 64 * block ≤ x → x < 64 * (block + 1) → row_at bytes'' next x ≡ joined (joined (row_at bytes' row) second) first x
    one x more less =
        let y : ℕ = x - 64 * block in
        let is : 64 * block + y ≡ x = omega arith in
        rw is at (made y (omega arith))
