-- For each public function, any two outcomes that its contract allows are equal.
use mathlib.Core.Path.{refl}
use Rattle.paper.specs.Outcome.{OneOutcome}
use Rattle.paper.proofs.Outcome.{by-equation}
use Rattle.keys.proofs as keys

pub total_of : OneOutcome keys.total_of.Kinds.ps keys.total_of.Kinds.r keys.total_of.Reads.Pre keys.total_of.Reads.Post
total_of κs a pre x y v w p q = (by-equation p q, refl)

pub keys-of : OneOutcome keys.keys_of.Kinds.ps keys.keys_of.Kinds.r keys.keys_of.Reads.Pre keys.keys_of.Reads.Post
keys-of κs a pre x y v w p q = (by-equation p.0 q.0, refl)
