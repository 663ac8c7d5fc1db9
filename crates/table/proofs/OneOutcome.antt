-- For the public function, any two outcomes that its contract allows are equal.
use mathlib.Core.Path.{refl}
use Rattle.paper.specs.Outcome.{OneOutcome}
use Rattle.paper.proofs.Outcome.{by-equation}
use Rattle.table.proofs as table

pub check : OneOutcome table.check.Kinds.ps table.check.Kinds.r table.check.Reads.Pre table.check.Reads.Post
check κs a pre x y v w p q = (by-equation p q, refl)
