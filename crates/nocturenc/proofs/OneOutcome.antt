-- For each public function, any two outcomes that its contract allows are equal: the answer, and every lent word or byte afterwards.
use mathlib.Core.Path.{refl}
use Rattle.paper.specs.Outcome.{OneOutcome}
use Rattle.paper.proofs.Outcome.{by-equation}
use Rattle.nocturenc.proofs.requests as requests
use Rattle.nocturenc.proofs.exported as exported

pub judge : OneOutcome requests.judge.Kinds.ps requests.judge.Kinds.r requests.judge.Reads.Pre requests.judge.Reads.Post
judge κs a pre x y v w p q = (by-equation p q, refl)

pub order : OneOutcome requests.order.Kinds.ps requests.order.Kinds.r requests.order.Reads.Pre requests.order.Reads.Post
order κs a pre x y v w p q = (by-equation p.answered q.answered, λ i. (tt, (by-equation p.left_so q.left_so i, tt)))

pub transition : OneOutcome requests.transition.Kinds.ps requests.transition.Kinds.r requests.transition.Reads.Pre requests.transition.Reads.Post
transition κs a pre x y v w p q = (by-equation p.answered q.answered, λ i. (tt, (tt, (by-equation p.left_so q.left_so i, tt))))

pub assignments : OneOutcome requests.assignments.Kinds.ps requests.assignments.Kinds.r requests.assignments.Reads.Pre requests.assignments.Reads.Post
assignments κs a pre x y v w p q = (by-equation p.answered q.answered, λ i. (tt, (tt, (by-equation p.left_so q.left_so i, tt))))

pub nocturenc-judge :
    OneOutcome exported.nocturenc_judge.Kinds.ps exported.nocturenc_judge.Kinds.r exported.nocturenc_judge.Reads.Pre exported.nocturenc_judge.Reads.Post
nocturenc-judge κs a pre x y v w p q = (by-equation p.answered q.answered, refl)

pub nocturenc-order :
    OneOutcome exported.nocturenc_order.Kinds.ps exported.nocturenc_order.Kinds.r exported.nocturenc_order.Reads.Pre exported.nocturenc_order.Reads.Post
nocturenc-order κs a pre x y v w p q = (by-equation p.answered q.answered, λ i. (tt, (by-equation p.left_so q.left_so i, tt)))

pub nocturenc-transition :
    OneOutcome exported.nocturenc_transition.Kinds.ps exported.nocturenc_transition.Kinds.r
    exported.nocturenc_transition.Reads.Pre exported.nocturenc_transition.Reads.Post
nocturenc-transition κs a pre x y v w p q = (by-equation p.answered q.answered, λ i. (tt, (tt, (by-equation p.left_so q.left_so i, tt))))

pub nocturenc-assignments :
    OneOutcome exported.nocturenc_assignments.Kinds.ps exported.nocturenc_assignments.Kinds.r
    exported.nocturenc_assignments.Reads.Pre exported.nocturenc_assignments.Reads.Post
nocturenc-assignments κs a pre x y v w p q = (by-equation p.answered q.answered, λ i. (tt, (tt, (by-equation p.left_so q.left_so i, tt))))
