-- For each public function, any two outcomes that its contract allows are equal.
use mathlib.Core.Path.{refl}
use Rattle.paper.specs.Outcome.{OneOutcome}
use Rattle.paper.proofs.Outcome.{by-equation}
use Rattle.paper.proofs as paper
use Rattle.paper.proofs.refusals.FaultFromU8 as reason
use Rattle.paper.proofs.refusals.FaultPartialEq as equal
use Rattle.paper.proofs.refusals.U8FromFault as number

pub faultpartialeq-eq : OneOutcome equal.eq.Kinds.ps equal.eq.Kinds.r equal.eq.Reads.Pre equal.eq.Reads.Post
faultpartialeq-eq κs a pre x y v w p q = (by-equation p q, refl)

pub u8fromfault-from : OneOutcome number.from.Kinds.ps number.from.Kinds.r number.from.Reads.Pre number.from.Reads.Post
u8fromfault-from κs a pre x y v w p q = (by-equation p q, refl)

pub faultfromu8-from : OneOutcome reason.from.Kinds.ps reason.from.Kinds.r reason.from.Reads.Pre reason.from.Reads.Post
faultfromu8-from κs a pre x y v w p q = (by-equation p q, refl)

pub refusal-at :
    OneOutcome paper.refusals.refusal_at.Kinds.ps paper.refusals.refusal_at.Kinds.r paper.refusals.refusal_at.Reads.Pre paper.refusals.refusal_at.Reads.Post
refusal-at κs a pre x y v w p q = (by-equation p.0 q.0, refl)

pub refusal-for :
    OneOutcome paper.refusals.refusal_for.Kinds.ps paper.refusals.refusal_for.Kinds.r paper.refusals.refusal_for.Reads.Pre paper.refusals.refusal_for.Reads.Post
refusal-for κs a pre x y v w p q = (by-equation p q, refl)
