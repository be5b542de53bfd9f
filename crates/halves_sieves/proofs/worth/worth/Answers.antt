-- What is left of the proof of which entries are worth keeping.
use Rattle.std.proofs.Common.{◌≡◌, ℕ, ◌+◌, ◌-◌, ◌≤◌, List, [], length, get_or, take, drop, replicate, ⊎_elim, arith}
use Rattle.std.proofs.lemmas.List.{append-nil, length-drop, length-take, take_all, get_or-replicate, get_or_past}
use Rattle.std.proofs.lemmas.Bool.{cases_lt}
use Rattle.halves_sieves.specs.Sieve.{Most}
use Rattle.halves_sieves.proofs.Parts.{short_from}
use Rattle.halves_sieves.proofs.Weighing.{most_none}
use Rattle.halves_sieves.proofs.worth.worth.Goals as goal

zeros : (r : ℕ) → get_or (replicate 25 0) r 0 ≤ 0
zeros r = ⊎_elim (λ l. omega (arith, get_or-replicate {A = ℕ} 25 r 0 0 l)) (λ l. omega (arith, get_or_past {X = ℕ} (replicate 25 0) r 0 l)) (cases_lt r 25)

-- the pans from n on
rest : (n : ℕ) (ws : List ℕ) → take (length ws - n) (drop n ws) ≡ drop n ws
rest n ws = take_all (length ws - n) (drop n ws) (omega (arith, length-drop n ws))

pub with_pans-requires-clause-low : goal.with_pans-requires-clause-low
with_pans-requires-clause-low c = λ r. omega (arith, zeros r)

pub with_pans-requires-2-clause-low : goal.with_pans-requires-2-clause-low
with_pans-requires-2-clause-low c =
    let ws = c.args.span.pans.weights.now in
    let n = c.args.span.skip + c.args.span.len in
    λ r. omega (arith, c.with_pans.ensures.low 0 zeros r, length-take (length ws - n) (drop n ws), length-drop n ws, c.args.span.pans.few)

pub returns : goal.returns
returns c =
    let ws = c.args.span.pans.weights.now in
    let n = c.args.span.skip + c.args.span.len in
    let behind : Most (drop n ws) c.with_pans.new.most = rw (rest n ws, append-nil (drop n ws)) at (c.with_pans.ensures.most [] (most_none (replicate 25 0))) in
    short_from c.args.bounds ws c.args.span.skip c.args.span.len c.with_pans-2.new.most c.loop-opened.least c.args.span.within c.requires (c.with_pans-2.ensures.most (drop n ws) behind)
    (λ x l. c.loop-opened.invariant x (omega (arith, c.requires)) l)
