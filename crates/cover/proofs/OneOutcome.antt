-- For each public function, any two outcomes that its contract allows are equal.
use mathlib.Core.Path.{refl}
use Rattle.paper.specs.Outcome.{OneOutcome}
use Rattle.paper.proofs.Outcome.{by-equation}
use Rattle.cover.proofs as cover
use Rattle.cover.proofs.RefusalFromUncovered as refusal

pub refusalfromuncovered-from : OneOutcome refusal.from.Kinds.ps refusal.from.Kinds.r refusal.from.Reads.Pre refusal.from.Reads.Post
refusalfromuncovered-from κs a pre x y v w p q = (by-equation p q, refl)

pub covering-of : OneOutcome cover.covering_of.Kinds.ps cover.covering_of.Kinds.r cover.covering_of.Reads.Pre cover.covering_of.Reads.Post
covering-of κs a pre x y v w p q = (by-equation p q, refl)
