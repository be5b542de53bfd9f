-- What is left of the proof of the first choice of two pans.
use Rattle.exact.proofs.Leading.{behind_is, picks_more, picks_none, picks_some, picks_fit}
use Rattle.exact.proofs.picks.two.Goals as goal

pub joined-requires : goal.joined-requires
joined-requires c = let p = rw behind_is at c.in_ok-rest.ensures in picks_fit c.in_ok-pan.ensures c.requires.few p

pub returns : goal.returns
returns c = let p = rw behind_is at c.in_ok-rest.ensures in rw c.joined.ensures (picks_more c.in_ok-pan.ensures p)

pub returns-in_err-pan : goal.returns-in_err-pan
returns-in_err-pan c = rw c.from_residual.ensures (picks_none c.in_err-pan.ensures)

pub returns-in_err-rest : goal.returns-in_err-rest
returns-in_err-rest c = let p = rw behind_is at c.in_err-rest.ensures in absurd (picks_some c.in_ok-pan.ensures p)
