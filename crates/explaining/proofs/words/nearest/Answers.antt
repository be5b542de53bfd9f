-- Each word has been looked at.
use Rattle.text.specs.Table.{spelling}
use Rattle.std.proofs.Common.{◌≤◌, map, ap}
use Rattle.explaining.specs.Words.{edits_to}
use Rattle.explaining.proofs.Nearness.{all_words, nearest_of}
use Rattle.explaining.proofs.words.nearest.Goals as goal

pub returns : goal.returns
returns c = nearest_of _ _ _ _ c.loop-word.invariant (all_words (λ w. c.loop-word.least ≤ edits_to c.args.name.now (spelling w)) _ c.loop-word.word-index (ap (map (λ r. r.0)) c.as_slice-rows.ensures) c.loop-word-test.false c.loop-word.invariant.none_nearer)
