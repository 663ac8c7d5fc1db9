-- For each function of the lister that puts into a buffer, any two outcomes that its contract allows are equal: the answer, and every byte
-- of the buffer. What the reading and the writing call do is in no contract.
use mathlib.Core.Path.{refl}
use Rattle.paper.specs.Outcome.{OneOutcome}
use Rattle.paper.proofs.Outcome.{by-equation}
use Rattle.listing.proofs.Placing.{one-pen}
use Rattle.lister.proofs.lines.Listed as listed
use Rattle.lister.proofs.parts as parts

pub pieces_of : OneOutcome parts.pieces_of.Kinds.ps parts.pieces_of.Kinds.r parts.pieces_of.Reads.Pre parts.pieces_of.Reads.Post
pieces_of κs a pre x y v w p q = (by-equation p q, refl)

pub listed-put-head : OneOutcome listed.put_head.Kinds.ps listed.put_head.Kinds.r listed.put_head.Reads.Pre listed.put_head.Reads.Post
listed-put-head κs a pre x y v w p q = (λ i. x, λ i. (tt, (one-pen p q i, tt)))

pub listed-put-lines : OneOutcome listed.put_lines.Kinds.ps listed.put_lines.Kinds.r listed.put_lines.Reads.Pre listed.put_lines.Reads.Post
listed-put-lines κs a pre x y v w p q =
    let n = by-equation p.many q.many in
    (n, λ i. (tt, (tt, (one-pen (rw n at p.puts) q.puts i, tt))))

pub put-part : OneOutcome parts.put_part.Kinds.ps parts.put_part.Kinds.r parts.put_part.Reads.Pre parts.put_part.Reads.Post
put-part κs a pre x y v w p q = (by-equation p.many q.many, λ i. (tt, (tt, (one-pen p.puts q.puts i, tt))))
