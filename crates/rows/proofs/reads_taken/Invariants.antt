-- The reads that the rows passed take are counted; each row takes at most its arg, so that the sum stays small.
use Prim.Native.Nat.{◌*◌, ◌≤◌}
use mathlib.Core.Path.{◌≡◌}
use Rattle.rows.specs.Rows.{taken_before}
use Rattle.rows.proofs.reads_taken.Given as goal

abbrev pub invariant-loop-i : goal.invariant-loop-i
invariant-loop-i l = (l.taken ≡ taken_before l.rows l.i) × (l.taken ≤ 65536 * l.i)
