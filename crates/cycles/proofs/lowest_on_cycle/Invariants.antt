-- The loop's invariant: the path is empty, `best` is as it should be, and the indices below root are not new.
use Prim.Native.Nat.{ℕ, ◌<◌}
use mathlib.Core.Path.{◌≡◌}
use mathlib.Core.Bool.{false}
use Rattle.fingers.specs.Inside.Graph.{free}
use Rattle.cycles.specs.Inside.Path.{Walked, Best}
use Rattle.fingers.specs.Inside.Follow.{graph}
use Rattle.cycles.proofs.lowest_on_cycle.Given as goal

abbrev pub invariant-loop-root : goal.invariant-loop-root
invariant-loop-root l =
    Walked (graph l.g) l.path.mark l.path.stack l.path.bound l.path.finger 0 0 0
    × Best (graph l.g) l.path.mark l.best
    × ((i : ℕ) → i < l.root → free l.path.mark i ≡ false)
