-- The loop's invariant: the segments from t on start above p, and t is not 0, as the first starts at 0.
use Rattle.cycles.proofs.Loops.{Merging}
use Rattle.cycles.proofs.merged.Given as goal

abbrev pub invariant-loop-t : goal.invariant-loop-t
invariant-loop-t l = Merging l.bound l.top l.p l.t

abbrev pub decreases-loop-t : goal.decreases-loop-t
decreases-loop-t l = l.t
