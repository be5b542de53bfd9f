-- What is left of the proof of an empty desk: want of memory.
use Rattle.std.proofs.lemmas.Result.{IfOk-from_err}
use Rattle.desk.specs.Kept.{Fresh}
use Rattle.desk.proofs.kept.empty_desk.Goals as goal

pub returns-in_err-bytes : goal.returns-in_err-bytes
returns-in_err-bytes c = IfOk-from_err c.from_residual-in_err-bytes.result (λ d. Fresh d) c.from_residual-in_err-bytes.ensures.0

pub returns-in_err-keys : goal.returns-in_err-keys
returns-in_err-keys c = IfOk-from_err c.from_residual-in_err-keys.result (λ d. Fresh d) c.from_residual-in_err-keys.ensures.0
