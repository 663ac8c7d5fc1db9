-- For the public function, any two outcomes that its contract allows are equal: the answer, and every lent word.
use Rattle.paper.specs.Outcome.{OneOutcome}
use Rattle.paper.proofs.Outcome.{by-equation}
use Rattle.ordering.proofs as ordering

pub order : OneOutcome ordering.order.Kinds.ps ordering.order.Kinds.r ordering.order.Reads.Pre ordering.order.Reads.Post
order κs a pre x y v w p q = (by-equation p.number q.number, λ i. (tt, (by-equation p.filled q.filled i, tt)))
