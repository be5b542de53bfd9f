-- The word up to the first blank, and the numbers behind it.
use Rattle.std.proofs.Common.{sym, ◌∙◌}
use Rattle.std.proofs.lemmas.Result.{err_from_is_err_and}
use Rattle.text.proofs.Lines.{FirstBlank, no_word, unread}
use Rattle.text.proofs.reading.read.Goals as goal
use Rattle.text.proofs.reading.read.Goals.{After-word_end}

blank : (c : After-word_end) → FirstBlank c.args.line.now c.word_end.result
blank c = record { within = c.word_end.ensures.within; before = c.word_end.ensures.before; found = c.word_end.ensures.found }

pub returns-in_err-word : goal.returns-in_err-word
returns-in_err-word c =
    let p = err_from_is_err_and c.from_residual.result c.from_residual.ensures.1 in
    rw (p.1, p.2, c.in_err-word.ensures.0)
    (c.if-passed_over.ensures, no_word _ _ (blank (goal.at.returns-in_err-word c).After-word_end) (λ w e. c.in_err-word.ensures.1 w (c.split_at.ensures.front ∙ e)))

pub returns-in_err-numbers : goal.returns-in_err-numbers
returns-in_err-numbers c =
    let p = err_from_is_err_and c.from_residual-in_err-numbers.result c.from_residual-in_err-numbers.ensures.1 in
    rw (p.1, p.2)
    (unread _ _ (blank (goal.at.returns-in_err-numbers c).After-word_end) c.in_ok-word.word (sym c.split_at.ensures.front ∙ c.in_ok-word.ensures) _ c.split_at.ensures.back c.if-passed_over.ensures _ c.in_err-numbers.ensures)
