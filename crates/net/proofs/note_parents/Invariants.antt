-- The rows over the rows before this one are noted, but for row 0.
use Prim.Native.Nat.{◌+◌, ◌≤◌}
use Rattle.paper.specs.Limits.{most_rows}
use Rattle.rows.specs.Inside.Tree.{parent_of}
use Rattle.net.specs.Inside.Net.{Words}
use Rattle.net.proofs.note_parents.Given as goal

abbrev pub invariant-loop-i : goal.invariant-loop-i
invariant-loop-i l = (l.i ≤ l.c.n + 1) × Words most_rows (parent_of l.c.rows.now) 1 l.i l.initial.parents l.parents
