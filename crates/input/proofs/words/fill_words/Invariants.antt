-- `fill_words` puts the words one after another: the invariant is that the words of the bytes passed stand in front.
use Rattle.input.proofs.BytePairs.{Putting}
use Rattle.input.proofs.words.fill_words.Given as goal

abbrev pub invariant-loop-i : goal.invariant-loop-i
invariant-loop-i l = Putting l.bytes l.initial.words l.words l.i
