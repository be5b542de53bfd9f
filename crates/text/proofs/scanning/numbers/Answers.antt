-- One number more each turn, until nothing or no number is left.
use Rattle.std.proofs.Common.{◌≡◌, [], ◌∷◌, ◌++◌, vec_items, sym, subst, rules}
use Rattle.text.proofs.Listing.{Sofar, one_more}
use Rattle.text.proofs.scanning.numbers.Goals as goal

pub loop-n-preserved : goal.loop-n-preserved
loop-n-preserved c =
    let pushed : vec_items c.push.new.self ≡ vec_items c.loop-n.numbers ++ (c.in-Some.n ∷ []) = search rules in
    subst (λ l. Sofar c.args.text.now l c.in-Some.more.now) (sym pushed) (one_more _ _ _ _ _ c.loop-n.invariant c.in-Some.ensures)
