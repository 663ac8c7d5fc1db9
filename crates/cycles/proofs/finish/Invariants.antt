-- The loop's invariant: the indices from `from` up to the one that is gone on from are marked.
use Prim.Native.Nat.{◌+◌}
use Rattle.cycles.specs.Inside.Path.{Finished}
use Rattle.cycles.proofs.finish.Given as goal

abbrev pub invariant-loop-i : goal.invariant-loop-i
invariant-loop-i l = Finished l.initial.mark l.stack l.from (l.from + l.i-index) l.mark
