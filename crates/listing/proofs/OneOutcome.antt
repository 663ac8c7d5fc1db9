-- For each public function, any two outcomes that its contract allows are equal: the pen, and every byte of the buffer that it has.
use Rattle.paper.specs.Outcome.{OneOutcome}
use Rattle.listing.proofs.Placing.{one-pen}
use Rattle.listing.proofs.Pen as pen

pub pen-byte : OneOutcome pen.byte.Kinds.ps pen.byte.Kinds.r pen.byte.Reads.Pre pen.byte.Reads.Post
pen-byte κs a pre x y v w p q = (λ i. x, λ i. (one-pen p q i, v.1))

pub pen-word : OneOutcome pen.word.Kinds.ps pen.word.Kinds.r pen.word.Reads.Pre pen.word.Reads.Post
pen-word κs a pre x y v w p q = (λ i. x, λ i. (one-pen p q i, v.1))

pub pen-decimal : OneOutcome pen.decimal.Kinds.ps pen.decimal.Kinds.r pen.decimal.Reads.Pre pen.decimal.Reads.Post
pen-decimal κs a pre x y v w p q = (λ i. x, λ i. (one-pen p.0 q.0 i, v.1))

pub pen-fields : OneOutcome pen.fields.Kinds.ps pen.fields.Kinds.r pen.fields.Reads.Pre pen.fields.Reads.Post
pen-fields κs a pre x y v w p q = (λ i. x, λ i. (one-pen p.0 q.0 i, v.1))

pub pen-kept-fields : OneOutcome pen.kept_fields.Kinds.ps pen.kept_fields.Kinds.r pen.kept_fields.Reads.Pre pen.kept_fields.Reads.Post
pen-kept-fields κs a pre x y v w p q = (λ i. x, λ i. (one-pen p.0 q.0 i, v.1))

pub pen-accepted : OneOutcome pen.accepted.Kinds.ps pen.accepted.Kinds.r pen.accepted.Reads.Pre pen.accepted.Reads.Post
pen-accepted κs a pre x y v w p q = (λ i. x, λ i. (one-pen p.0 q.0 i, v.1))

pub pen-order : OneOutcome pen.order.Kinds.ps pen.order.Kinds.r pen.order.Reads.Pre pen.order.Reads.Post
pen-order κs a pre x y v w p q = (λ i. x, λ i. (one-pen p.0 q.0 i, v.1))

pub pen-transition : OneOutcome pen.transition.Kinds.ps pen.transition.Kinds.r pen.transition.Reads.Pre pen.transition.Reads.Post
pen-transition κs a pre x y v w p q = (λ i. x, λ i. (one-pen p.0 q.0 i, v.1))

pub pen-refused : OneOutcome pen.refused.Kinds.ps pen.refused.Kinds.r pen.refused.Reads.Pre pen.refused.Reads.Post
pen-refused κs a pre x y v w p q = (λ i. x, λ i. (one-pen p.0 q.0 i, v.1))
