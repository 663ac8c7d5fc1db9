-- The row over a row: on the way up from the row before it no row passed is over it, and the first row of all is.
use Rattle.net.proofs.Climb.{Reached}
use Rattle.net.proofs.climbed.Given as goal

abbrev pub invariant-loop-at : goal.invariant-loop-at
invariant-loop-at l = Reached l.c.rows.now l.at.0 l.top.0

abbrev pub decreases-loop-at : goal.decreases-loop-at
decreases-loop-at l = l.top.0
