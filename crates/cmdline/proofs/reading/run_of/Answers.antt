use Rattle.std.proofs.Common.{◌≡◌, ◌∙◌, ap, Bool, true, false, codes}
use Rattle.std.specs.Prelude.{Some, None}
use Rattle.clap.specs.Words.{Text, found_of, one_text, rows_of}
use Rattle.clap.specs.declared.parser.matches.Found.{Found}
use Rattle.clap.proofs.WalkLemmas.{first_value-rows, one_text-rows}
use Rattle.cmdline.specs.Asked.{IsFlag, no_dash}
use Rattle.cmdline.proofs.reading.run_of.Goals as goal

is_flag : (f : Found) (id : Text) (on : Bool) → (one_text f id ≡ None → on ≡ false) → (one_text f id ≡ Some (codes "true") → on ≡ true)
    → (one_text f id ≡ Some (codes "false") → on ≡ false) → IsFlag id (rows_of f) on
is_flag f id on unsaid given not_given = record {
  on_where_given = λ h. given (one_text-rows f id ∙ h);
  off_where_not = λ h. not_given (one_text-rows f id ∙ h);
  off_where_unsaid = λ h. unsaid (one_text-rows f id ∙ h);
}

pub returns : goal.returns
returns c = record {
  file = c.undashed.ensures ∙ ap no_dash (c.get_str.ensures ∙ first_value-rows (found_of c.args.matches.now) (codes "FILE"));
  strict = is_flag (found_of c.args.matches.now) (codes "strict") _ c.get_flag.ensures.none c.get_flag.ensures.value c.get_flag.ensures.other;
  explain = is_flag (found_of c.args.matches.now) (codes "explain") _ c.get_flag-2.ensures.none c.get_flag-2.ensures.value c.get_flag-2.ensures.other;
}
