-- The checks in their order, and then the bytes that `keep` left are copied.
use native.Mathlib.Omega.{arith}
use mathlib.Core.Path.{ap}
use Rattle.std.specs.Prelude.{Err}
use Rattle.answers.proofs.Accepted.{few-transitions}
use Rattle.answers.proofs.Keeping.{front-is, front-there, front_length}
use Rattle.answers.proofs.Answers.{absent, not-whole, whole}
use Rattle.answers.proofs.judged.AcceptedTable.transition_of.Goals as goal

pub refusal_for-requires : goal.refusal_for-requires
refusal_for-requires c = let n = few-transitions _ _ c.args.self.now.judged_so in omega arith

pub returns-then-count-k : goal.returns-then-count-k
returns-then-count-k c = absent _ _ _ _ _ _ c.if-count-k.true (ap Err c.refusal_for.ensures)

pub refusal_for-requires-then-chosen-l : goal.refusal_for-requires-then-chosen-l
refusal_for-requires-then-chosen-l c =
    let n = few-transitions _ _ c.args.self.now.judged_so in
    omega (arith, c.if-count-k.false)

pub returns-then-chosen-l : goal.returns-then-chosen-l
returns-then-chosen-l c =
    not-whole _ _ _ _ _ _ c.if-count-k.false _ c.keep-chosen.ensures.many c.if-chosen-l.true (ap Err c.refusal_for-then-chosen-l.ensures)

pub slice_bounds-kept-end : goal.slice_bounds-kept-end
slice_bounds-kept-end c = (front-there _ _ c.args.self.now.judged_so _ c.if-count-k.false _ _ c.keep-chosen.ensures.bytes).0

pub slice_bounds-fill-end : goal.slice_bounds-fill-end
slice_bounds-fill-end c = front_length _ _ c.args.self.now.judged_so _ c.if-count-k.false _ _ c.keep-chosen.ensures.bytes

pub returns : goal.returns
returns c =
    let front = front-is _ _ c.args.self.now.judged_so _ c.if-count-k.false _ _ c.keep-chosen.ensures.bytes in
    whole _ _ _ _ _ _ c.if-count-k.false _ c.keep-chosen.ensures.many c.if-chosen-l.false (rw front at c.fill.ensures)
