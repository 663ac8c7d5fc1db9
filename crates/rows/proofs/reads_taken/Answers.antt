-- The reads that the rows passed take are counted; each row takes at most its arg, so that the sum stays small.
use Prim.Native.Nat.{◌+◌, ◌*◌, ◌<◌}
use native.Mathlib.Omega.{arith}
use native.Mathlib.Nat.{lt_of_le_of_lt}
use mathlib.Core.Path.{refl}
use Rattle.rows.specs.Rows.{taken_before}
use Rattle.rows.proofs.Taken.{takes-le, taken_more}
use Rattle.rows.proofs.reads_taken.Goals as goal

pub loop-i-init : goal.loop-i-init
unfolding taken_before
loop-i-init c = (refl, omega arith)

pub loop-i-preserved : goal.loop-i-preserved
loop-i-preserved c =
    -- a row takes fewer reads than a word can say
    let few : c.taken_by-taken.result < 65536 = rw c.taken_by-taken.ensures (lt_of_le_of_lt (takes-le _ _) (c.type_inv.rows (4 * c.loop-i.i + 1)).fits) in
    (taken_more _ _ _ _ c.loop-i.invariant.0 c.taken_by-taken.ensures, omega arith)
