-- Whether two candidates share a branch: the way up from the second ends at the first row over the other, whose kind tells of
-- all labels under it beside the way.
use Rattle.net.proofs.Clear.{Upward}
use Rattle.net.proofs.clear_of.Given as goal

abbrev pub invariant-loop-below : goal.invariant-loop-below
invariant-loop-below l = Upward l.rows l.i.0 l.initial.below.0 l.below.0 l.top.0

abbrev pub decreases-loop-below : goal.decreases-loop-below
decreases-loop-below l = l.top.0
