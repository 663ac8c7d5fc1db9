-- For the public function, any two outcomes that its contract allows are equal.
use mathlib.Core.Path.{refl}
use Rattle.paper.specs.Outcome.{OneOutcome}
use Rattle.paper.proofs.Outcome.{by-equation}
use Rattle.cycles.proofs as cycles

pub lowest-on-cycle :
    OneOutcome cycles.lowest_on_cycle.Kinds.ps cycles.lowest_on_cycle.Kinds.r cycles.lowest_on_cycle.Reads.Pre cycles.lowest_on_cycle.Reads.Post
lowest-on-cycle κs a pre x y v w p q = (by-equation p q, refl)
