-- The lowest row that breaks its rules is found: all rows passed keep theirs, so that the reads which they take are there.
use Prim.Native.Nat.{ℕ, ◌<◌, ◌≤◌}
use mathlib.Core.Path.{◌≡◌}
use mathlib.Core.Bool.{false}
use lib.ListN.{length}
use Rattle.rows.specs.Rows.{taken_before, breaks_rules}
use Rattle.rows.proofs.first_broken.Given as goal

abbrev pub invariant-loop-i : goal.invariant-loop-i
invariant-loop-i l =
    (l.taken ≡ taken_before l.rows l.i) × (l.taken ≤ length l.reads) × ((j : ℕ) → j < l.i → breaks_rules l.rows l.reads l.variables l.n j ≡ false)
