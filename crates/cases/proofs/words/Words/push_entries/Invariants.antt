-- `push_entries` ends, since each entry takes it on in the text.
use Rattle.std.proofs.Common.{◌≤◌, length}
use Rattle.cases.proofs.words.Words.push_entries.Given as goal

abbrev pub invariant-loop-rest : goal.invariant-loop-rest
invariant-loop-rest l = length l.here ≤ length l.text

abbrev pub decreases-loop-rest : goal.decreases-loop-rest
decreases-loop-rest l = length l.here
