-- A root that is not new is walked already. The loop's invariant: the path and `best` are as they should be, and no mark went back.
-- The measure is how far the walk has to go.
use Rattle.cycles.specs.Inside.Path.{Walked, Best, Grown, weight}
use Rattle.fingers.specs.Inside.Follow.{graph}
use Rattle.cycles.proofs.Path.explore.Given as goal

abbrev pub invariant-loop-w : goal.invariant-loop-w
invariant-loop-w l =
    Walked (graph l.g) l.self.mark l.self.stack l.self.bound l.self.finger l.w.len l.w.top l.w.at
    × Best (graph l.g) l.self.mark l.w.best
    × Grown (graph l.g) l.initial.self.mark l.self.mark

abbrev pub decreases-loop-w : goal.decreases-loop-w
decreases-loop-w l = weight (graph l.g) l.self.mark l.w.top l.w.at
