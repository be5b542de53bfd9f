use Rattle.std.proofs.Common.{◌≡◌, ◌∙◌, ap, ap₂, codes, false}
use Rattle.std.proofs.lemmas.Result.{IfOk-weaker}
use Rattle.std.specs.Prelude.{Some}
use Rattle.clap.specs.declared.builder.action.ArgAction.TheVariants.{SetTrue}
use Rattle.clap.specs.declared.builder.arg.Arg.{Arg}
use Rattle.clap.specs.Simple.{app_of_fields}
use Rattle.clap.specs.Words.{Rule, app_of, new_app, new_rule, rule_of, with_rule}
use Rattle.cmdline.specs.Asked.{flag, the_app, with_version}
use Rattle.cmdline.proofs.command.weigh_command.Goals as goal

pub returns : goal.returns
unfolding the_app
returns c =
    let file_is : rule_of c.help-file.result ≡ new_rule (codes "FILE") = ap rule_of c.help-file.ensures ∙ c.new.ensures.rule in
    let strict_is : rule_of c.help-strict.result ≡ flag (codes "strict") = ap rule_of c.help-strict.ensures ∙ ap rule_of c.action.ensures ∙ ap {A = Arg} (λ a. record (rule_of a) { action = Some SetTrue }) c.long.ensures ∙ ap {A = Rule} (λ r. record r { long = Some (codes "strict"); action = Some SetTrue }) c.new-2.ensures.rule in
    let explain_is : rule_of c.help-explain.result ≡ flag (codes "explain") = ap rule_of c.help-explain.ensures ∙ ap rule_of c.action-2.ensures ∙ ap {A = Arg} (λ a. record (rule_of a) { action = Some SetTrue }) c.long-2.ensures ∙ ap {A = Rule} (λ r. record r { long = Some (codes "explain"); action = Some SetTrue }) c.new-3.ensures.rule in
    let version_is : app_of c.version.result ≡ with_version (new_app (codes "weigh")) = ap app_of_fields c.version.ensures ∙ ap with_version c.new-4.ensures.app in
    let told_is : app_of c.about.result ≡ with_version (new_app (codes "weigh")) = ap app_of_fields c.about.ensures ∙ version_is in
    let file_apart : c.help-file.result.global ≡ false = ap {A = Arg} (λ a. a.global) c.help-file.ensures ∙ c.new.ensures.optional.1 in
    let strict_apart : c.help-strict.result.global ≡ false = ap {A = Arg} (λ a. a.global) c.help-strict.ensures ∙ ap {A = Arg} (λ a. a.global) c.action.ensures ∙ ap {A = Arg} (λ a. a.global) c.long.ensures ∙ c.new-2.ensures.optional.1 in
    let explain_apart : c.help-explain.result.global ≡ false = ap {A = Arg} (λ a. a.global) c.help-explain.ensures ∙ ap {A = Arg} (λ a. a.global) c.action-2.ensures ∙ ap {A = Arg} (λ a. a.global) c.long-2.ensures ∙ c.new-3.ensures.optional.1 in
    let first_is = c.in_ok-arg.ensures.shape file_apart ∙ ap₂ with_rule told_is file_is in
    let second_is = c.in_ok-arg-2.ensures.shape strict_apart ∙ ap₂ with_rule first_is strict_is in
    IfOk-weaker c.arg-3.result _ _ (λ command adds. adds.shape explain_apart ∙ ap₂ with_rule second_is explain_is) c.arg-3.ensures
