-- `depth::first_deep` meets its contract. The measure of the recursion is the depth left, that of the loop what is left of the
-- row's subtree; the loop's invariant is `Passed`. Assumes nothing.
use Prim.Native.Nat.{ℕ, ◌+◌, ◌-◌}
use mathlib.Core.Path.{◌≡◌}
use Rattle.rows.proofs.Depths.{Passed}
use Rattle.rows.proofs.depth.+first_deep.Given as goal

abbrev pub invariant-loop-k : goal.invariant-loop-k
invariant-loop-k l = (at : ℕ) → l.initial.k.0 ≡ at + 1 → Passed l.rows at l.k.0

abbrev pub decreases-loop-k : goal.decreases-loop-k
decreases-loop-k l = l.end.0 - l.k.0

abbrev pub decreases-first_deep : goal.decreases-first_deep
decreases-first_deep l = l.left
