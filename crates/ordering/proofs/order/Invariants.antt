-- The loop's invariant: the indices below `from` are placed or wait, and the labels placed so far stand in `out`. The measure is how
-- many may still be placed.
use Prim.Native.Nat.{◌-◌, ◌≤◌}
use lib.ListN.{length}
use Rattle.ordering.specs.Inside.Placing.{State, Placing}
use Rattle.fingers.specs.Inside.Follow.{graph}
use Rattle.ordering.proofs.order.Given as goal

abbrev pub invariant-loop-k : goal.invariant-loop-k
invariant-loop-k l =
    (l.from ≤ length l.chosen) × State (graph l.g) l.from l.placed l.waits.finger l.waits.wait l.waits.low
    × Placing (graph l.g) l.chosen l.count l.placed l.initial.out l.out

abbrev pub decreases-loop-k : goal.decreases-loop-k
decreases-loop-k l = length l.chosen - l.count
