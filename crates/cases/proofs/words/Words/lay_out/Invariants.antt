-- `lay_out` ends, since each item takes it on in the text.
use Rattle.std.proofs.Common.{◌≤◌, length}
use Rattle.cases.proofs.words.Words.lay_out.Given as goal

abbrev pub invariant-loop-here : goal.invariant-loop-here
invariant-loop-here l = length l.here ≤ length l.text

abbrev pub decreases-loop-here : goal.decreases-loop-here
decreases-loop-here l = length l.here
