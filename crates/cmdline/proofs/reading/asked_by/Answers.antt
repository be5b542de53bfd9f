use Rattle.std.proofs.Common.{◌≡◌, ◌∙◌, ap, sym, subst, refl, map, Bool, true, false, true≢false, inl, inr, List}
use Rattle.clap.specs.Words.{App, HasKind, IsAmong, Kinds, Row, Text, app_of, fault_of, is_simple, is_simple_and_free, kind_of, matches_of}
use Rattle.clap.specs.declared.error.Error.{Error}
use Rattle.clap.specs.declared.error.kind.ErrorKind.{ErrorKind}
use Rattle.clap.specs.declared.error.kind.ErrorKind.TheVariants.{DisplayHelp, DisplayVersion, OutOfMemory}
use Rattle.clap.proofs.OnLiterals.{clap_on_literals}
use Rattle.cmdline.specs.Asked.{IsRun, faults, given, the_app}
use Rattle.cmdline.proofs.reading.asked_by.Goals as goal

simple : is_simple the_app ≡ true
unfolding clap_on_literals the_app
simple = refl

free : is_simple_and_free the_app ≡ true
unfolding clap_on_literals the_app
free = refl

-- an error that is not of memory has one of the kinds
among : (e : Error) (k : ErrorKind) (ks : Kinds) → HasKind ks e → k ≡ kind_of e → (k ≡ OutOfMemory → ⊥) → IsAmong k ks
among e k ks (inl memory) is not_memory = absurd (not_memory (is ∙ memory))
among e k ks (inr here) is not_memory = subst (λ (x : ErrorKind). IsAmong x ks) (sym is) here

is_memory : ErrorKind → Bool
is_memory OutOfMemory = true
is_memory _ = false

help_is_no_memory : DisplayHelp ≡ OutOfMemory → ⊥
unfolding is_memory
help_is_no_memory e = true≢false (sym (ap is_memory e))

version_is_no_memory : DisplayVersion ≡ OutOfMemory → ⊥
unfolding is_memory
version_is_no_memory e = true≢false (sym (ap is_memory e))

pub returns-in-Ok : goal.returns-in-Ok
unfolding faults given
returns-in-Ok g c =
    let words : List Text = map g.S.AsStr.text c.args.words.now in
    let app_is : app_of c.in_ok-weigh_command.field-0 ≡ the_app = c.in_ok-weigh_command.ensures in
    let none = c.in-Ok.ensures.kinds (ap is_simple_and_free app_is ∙ free) in
    let rows = (c.in-Ok.ensures.matches (ap is_simple app_is ∙ simple)).0 in
    (sym (ap (λ a. fault_of a words) app_is) ∙ none, subst (λ (rows : List Row). IsRun rows c.run_of.result) (rows ∙ ap (λ a. matches_of a words) app_is) c.run_of.ensures)

pub returns-in-DisplayHelp : goal.returns-in-DisplayHelp
unfolding faults
returns-in-DisplayHelp g c =
    let words : List Text = map g.S.AsStr.text c.args.words.now in
    let app_is : app_of c.in_ok-weigh_command.field-0 ≡ the_app = c.in_ok-weigh_command.ensures in
    let kinds = c.in-Err.ensures.kinds (ap is_simple_and_free app_is ∙ free) in
    let of_words : HasKind (fault_of the_app words) c.in-Err.error = subst (λ (a : App). HasKind (fault_of a words) c.in-Err.error) app_is kinds in
    inl (among c.in-Err.error DisplayHelp _ of_words (sym c.in-DisplayHelp.is ∙ c.kind.ensures) help_is_no_memory)

pub returns-in-DisplayVersion : goal.returns-in-DisplayVersion
unfolding faults
returns-in-DisplayVersion g c =
    let words : List Text = map g.S.AsStr.text c.args.words.now in
    let app_is : app_of c.in_ok-weigh_command.field-0 ≡ the_app = c.in_ok-weigh_command.ensures in
    let kinds = c.in-Err.ensures.kinds (ap is_simple_and_free app_is ∙ free) in
    let of_words : HasKind (fault_of the_app words) c.in-Err.error = subst (λ (a : App). HasKind (fault_of a words) c.in-Err.error) app_is kinds in
    inr (among c.in-Err.error DisplayVersion _ of_words (sym c.in-DisplayVersion.is ∙ c.kind.ensures) version_is_no_memory)

pub returns : goal.returns
unfolding faults
returns g c =
    let words : List Text = map g.S.AsStr.text c.args.words.now in
    let app_is : app_of c.in_ok-weigh_command.field-0 ≡ the_app = c.in_ok-weigh_command.ensures in
    let kinds = c.in-Err.ensures.kinds (ap is_simple_and_free app_is ∙ free) in
    let of_words : HasKind (fault_of the_app words) c.in-Err.error = subst (λ (a : App). HasKind (fault_of a words) c.in-Err.error) app_is kinds in
    (c.kind.result, among c.in-Err.error c.kind.result _ of_words c.kind.ensures c.in_default.not-OutOfMemory, c.in_default.not-DisplayHelp, c.in_default.not-DisplayVersion)
