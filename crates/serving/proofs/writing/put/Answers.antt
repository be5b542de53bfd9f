-- What a write took is the next of the text.
use Rattle.serving.proofs.Known.{put_more}
use Rattle.serving.proofs.writing.put.Goals as goal

pub loop-preserved : goal.loop-preserved
loop-preserved g c = put_more _ _ _ c.loop.done c.in_ok-done.field-0 c.args.text.now c.loop.invariant c.in_ok-done.ensures
