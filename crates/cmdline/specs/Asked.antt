-- What a command line asks of the program, in the parser's own words: `fault_of` says what is wrong with the words of a
-- command line (or that help or the version is asked for), `matches_of` what they give to each name, a row each.
--
--   the_app      the command line that is taken: a file that may be left out, and two flags
--   faults, given   `fault_of` and `matches_of` of that command line
--   no_dash      `-` means standard input, as no file does
--   IsFlag       whether a flag is given
--   IsRun        the file and the flags are those that the rows have
--   AsksFor      a run where nothing is wrong; help or the version where that is asked for; else it is told what is wrong
use Rattle.std.specs.Prelude.{◌≡◌, ◌≢◌, ◌⊎◌, Bool, true, false, List, [], Option, Some, None, codes, option_map}
use Rattle.std.specs.Prelude.{if◌then◌else◌}
use Rattle.std.specs.Str.{bytes_eq}
use Rattle.clap.specs.Words.{App, Row, Rule, Text, IsAmong, Kinds, fault_of, first_of, matches_of, new_app, new_rule, one_of, with_rule}
use Rattle.clap.specs.declared.builder.action.ArgAction.TheVariants.{SetTrue}
use Rattle.clap.specs.declared.error.kind.ErrorKind.{ErrorKind}
use Rattle.clap.specs.declared.error.kind.ErrorKind.TheVariants.{DisplayHelp, DisplayVersion}
use Rattle.cmdline.specs.declared.reading.Asked.{Asked}
use Rattle.cmdline.specs.declared.reading.Asked.TheVariants as asked
use Rattle.cmdline.specs.declared.reading.Run.{Run}

abbrev pub flag : Text → Rule
flag name = record (new_rule name) { long = Some name; action = Some SetTrue }

abbrev pub with_version : App → App
with_version a = record a { top = record a.top { has_version = true } }

unfoldable pub the_app : App
the_app = with_rule (with_rule (with_rule (with_version (new_app (codes "weigh")))
    (new_rule (codes "FILE"))) (flag (codes "strict"))) (flag (codes "explain"))

-- what is wrong with the words of a command line, or that help or the version is asked for
unfoldable pub faults : List Text → Kinds
faults words = fault_of the_app words

-- what they give to each name
unfoldable pub given : List Text → List Row
given words = matches_of the_app words

abbrev pub no_dash : Option Text → Option Text
no_dash (Some name) = if bytes_eq name (codes "-") then None else Some name
no_dash None = None

pub record IsFlag (id : Text) (rows : List Row) (on : Bool) : Type 0 where
  pub on_where_given : one_of id rows ≡ Some (codes "true") → on ≡ true
  pub off_where_not : one_of id rows ≡ Some (codes "false") → on ≡ false
  pub off_where_unsaid : one_of id rows ≡ None → on ≡ false

pub record IsRun (rows : List Row) (run : Run) : Type 0 where
  pub file : option_map (λ s. s.now) run.file ≡ no_dash (first_of (codes "FILE") rows)
  pub strict : IsFlag (codes "strict") rows run.strict
  pub explain : IsFlag (codes "explain") rows run.explain

abbrev pub AsksFor : List Text → Asked → Type 0
AsksFor words (asked.Run run) = (faults words ≡ []) × IsRun (given words) run
AsksFor words (asked.Tell text) =
    IsAmong DisplayHelp (faults words) ⊎ IsAmong DisplayVersion (faults words)
AsksFor words (asked.Wrong text) =
    (kind : ErrorKind) × IsAmong kind (faults words) × (kind ≢ DisplayHelp) × (kind ≢ DisplayVersion)
