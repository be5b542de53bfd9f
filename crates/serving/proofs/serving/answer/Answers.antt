-- The text that is put is what is printed of the answer.
use Rattle.std.proofs.Common.{◌≡◌, ◌∙◌, ◌++◌, Some, sym, ap, subst}
use Rattle.serving.specs.Served.{printed}
use Rattle.serving.specs.Written.{Written}
use Rattle.serving.proofs.serving.answer.Goals as goal

pub returns : goal.returns
returns g c =
    let text : c.as_bytes.result.now ≡ printed c.args.reply = c.as_bytes.ensures.value ∙ c.in_ok-writeln.ensures.bytes ∙ ap (λ l. l ++ printed (Some c.in-Some.reply)) c.clear.ensures.bytes ∙ sym (ap printed c.in-Some.is) in
    subst (λ t. Written (g.W.Write.contents c.args.out.now) (g.W.Write.contents c.put.new.out) t c.put.result) text c.put.ensures
