-- `fill_words` puts the words one after another: the invariant is that the words of the bytes passed stand in front.
use Rattle.input.proofs.Copies.{copy-starts}
use Rattle.input.proofs.BytePairs.{word-of, word-put, words-in}
use Rattle.input.proofs.words.fill_words.Goals as goal

pub loop-i-init : goal.loop-i-init
loop-i-init c = copy-starts _ _ _

pub loop-i-preserved : goal.loop-i-preserved
loop-i-preserved c = word-put _ _ c.requires c.loop-i-test.true (word-of _ _ c.from_le_bytes.ensures) c.loop-i.invariant

pub returns : goal.returns
returns c = words-in _ _ c.requires c.loop-i-test.false c.loop-i.invariant
