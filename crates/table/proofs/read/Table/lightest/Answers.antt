-- What is left of the proof of the first weight of the window that few enough pans make.
use Rattle.std.proofs.Common.{ℕ, ◌+◌, ◌<◌, ◌≤◌, List, Some, None, Option, get_or, arith, rules, tests}
use Rattle.std.proofs.lemmas.Iterator.{first_from_Range}
use Rattle.std.specs.Option.{MatchOption}
use Rattle.table.specs.Rows.{Lightest}
use Rattle.table.proofs.read.Table.lightest.Goals as goal

lightest_from :
    (bytes : List ℕ) (start from most limit : ℕ) (r : Option ℕ) →
    MatchOption r ((y : ℕ) → from ≤ y → y < most + 1 → limit < get_or bytes (start + y) 0)
    (λ x. (from ≤ x) × (x < most + 1) × (get_or bytes (start + x) 0 ≤ limit) × ((y : ℕ) → from ≤ y → y < x → limit < get_or bytes (start + y) 0)) →
    Lightest bytes start from most limit r
lightest_from bytes start from most limit None h = λ y low high. h y low (omega arith)
lightest_from bytes start from most limit (Some x) h = record { enough = h.0; within = omega arith; few = h.2; lighter = h.3 }

pub returns : goal.returns
returns c =
    let bytes = c.args.self.bytes.now in
    let top = c.top-top.result in
    rw (← c.top-top.ensures)
    (lightest_from bytes top c.args.from c.args.self.span c.args.limit c.find.result
    (first_from_Range _ _ _ c.find.result (λ x. get_or bytes (top + x) 0 ≤ c.args.limit) (λ x. c.args.limit < get_or bytes (top + x) 0) c.find.ensures.ran
    (λ x q k. search (rules, tests)) (λ x q k. search (rules, tests))))
