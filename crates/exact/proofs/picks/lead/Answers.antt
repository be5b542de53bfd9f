-- What is left of the proof of the first pan that leads to the weight.
use Rattle.std.proofs.Common.{ℕ, ◌+◌, ◌-◌, ◌<◌, ◌≤◌, List, Some, None, Option, get_or, length, arith, rules, tests}
use Rattle.std.proofs.lemmas.Iterator.{first_from_Range}
use Rattle.std.specs.Option.{MatchOption}
use Rattle.exact.specs.Few.{Leads, Tells}
use Rattle.exact.proofs.Leading.{tells_heads, heads_tells}
use Rattle.exact.proofs.picks.lead.Goals as goal

lead_from :
    (x : ℕ) {k : ℕ} {ws bytes : List ℕ} → Tells k ws bytes → x + 1 < length bytes → (r : Option ℕ) →
    MatchOption r ((i : ℕ) → 0 ≤ i → i < length ws → length ws - i ≤ get_or bytes (x - get_or ws i 0) 0)
    (λ i. (0 ≤ i) × (i < length ws) × (get_or bytes (x - get_or ws i 0) 0 < length ws - i) × ((j : ℕ) → 0 ≤ j → j < i → length ws - j ≤ get_or bytes (x - get_or ws j 0) 0)) →
    Leads k ws x r
lead_from x t room None h = λ i heads. omega (arith, h i (omega arith) heads.within, heads_tells t room i heads.within heads)
lead_from x t room (Some i) h =
    record { heads = tells_heads t room i h.1 h.2; earlier = λ j less heads. omega (arith, h.3 j (omega arith) less, heads_tells t room j heads.within heads) }

pub returns : goal.returns
returns g c =
    let ws = c.args.free.now in
    let bytes = c.args.table.now in
    let x = c.args.weight in
    lead_from x c.requires.1 c.requires.0 c.find.result
    (first_from_Range _ _ _ c.find.result (λ i. get_or bytes (x - get_or ws i 0) 0 < length ws - i) (λ i. length ws - i ≤ get_or bytes (x - get_or ws i 0) 0) c.find.ensures.ran
    (λ x q k. search (rules, tests)) (λ x q k. search (rules, tests)))
