-- The laws' proofs.
use Rattle.choices.proofs.Leaving.{nothing_lost}
use Rattle.laws.proofs.Rows.{rows_lose_nothing}
use Rattle.laws.proofs.nothing_is_lost.Goals as goal

pub returns-clause-bag : goal.returns-clause-bag
returns-clause-bag g c = nothing_lost

pub returns-clause-row : goal.returns-clause-row
returns-clause-row g c = rows_lose_nothing g.met.K.Kind.lawful
