-- The guards around the rows before this one are noted.
use Prim.Native.Nat.{◌+◌, ◌≤◌}
use Rattle.paper.specs.Limits.{most_rows}
use Rattle.rows.specs.Inside.Tree.{guard_of}
use Rattle.net.specs.Inside.Net.{Words}
use Rattle.net.proofs.note_guards.Given as goal

abbrev pub invariant-loop-i : goal.invariant-loop-i
invariant-loop-i l = (l.i ≤ l.c.n + 1) × Words most_rows (guard_of l.c.rows.now) 0 l.i l.fn.guards l.guards
