-- What is left of the proof that a season is told.
use Rattle.c_interface.proofs.Telling.{told_refused}
use Rattle.c_interface.proofs.seasons_told.weigh_season.Goals as goal

pub returns-in-Err : goal.returns-in-Err
returns-in-Err c = told_refused _ _ _ _ _ _ _ _ c.in-Err.ensures.answer c.number.ensures
