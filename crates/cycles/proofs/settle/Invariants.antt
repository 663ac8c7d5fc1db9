-- The loop's invariant: r is the least of `best` and the indices from `from` up to the one that is gone on from.
use Prim.Native.Nat.{◌+◌}
use Rattle.cycles.specs.Inside.Path.{Settled}
use Rattle.cycles.proofs.settle.Given as goal

abbrev pub invariant-loop-i : goal.invariant-loop-i
invariant-loop-i l = Settled l.stack l.from (l.from + l.i-index) l.best l.r
