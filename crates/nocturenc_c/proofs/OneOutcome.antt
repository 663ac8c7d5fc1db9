-- For each function of the archive, any two outcomes that its contract allows are equal: the answer, and every lent word or byte afterwards.
use mathlib.Core.Path.{refl}
use Rattle.paper.specs.Outcome.{OneOutcome}
use Rattle.paper.proofs.Outcome.{by-equation}
use Rattle.nocturenc_c.proofs as exported

pub nocturenc-judge :
    OneOutcome exported.nocturenc_judge.Kinds.ps exported.nocturenc_judge.Kinds.r exported.nocturenc_judge.Reads.Pre exported.nocturenc_judge.Reads.Post
nocturenc-judge κs a pre x y v w p q = (by-equation p.answered q.answered, refl)

pub nocturenc-order :
    OneOutcome exported.nocturenc_order.Kinds.ps exported.nocturenc_order.Kinds.r exported.nocturenc_order.Reads.Pre exported.nocturenc_order.Reads.Post
nocturenc-order κs a pre x y v w p q = (by-equation p.answered q.answered, λ i. (tt, (by-equation p.left_so q.left_so i, tt)))

pub nocturenc-transition :
    OneOutcome exported.nocturenc_transition.Kinds.ps exported.nocturenc_transition.Kinds.r
    exported.nocturenc_transition.Reads.Pre exported.nocturenc_transition.Reads.Post
nocturenc-transition κs a pre x y v w p q = (by-equation p.answered q.answered, λ i. (tt, (tt, (by-equation p.left_so q.left_so i, tt))))

pub nocturenc-assignments :
    OneOutcome exported.nocturenc_assignments.Kinds.ps exported.nocturenc_assignments.Kinds.r
    exported.nocturenc_assignments.Reads.Pre exported.nocturenc_assignments.Reads.Post
nocturenc-assignments κs a pre x y v w p q = (by-equation p.answered q.answered, λ i. (tt, (tt, (by-equation p.left_so q.left_so i, tt))))
