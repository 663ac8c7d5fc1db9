-- The loop's invariant: the indices below k are placed or wait.
use Rattle.ordering.specs.Inside.Placing.{State}
use Rattle.fingers.specs.Inside.Follow.{graph}
use Rattle.ordering.proofs.Waits.lowest_ready.Given as goal

abbrev pub invariant-loop-k : goal.invariant-loop-k
invariant-loop-k l = State (graph l.g) l.k l.placed l.self.finger l.self.wait l.self.low
