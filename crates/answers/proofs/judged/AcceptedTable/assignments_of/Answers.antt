-- The checks in their order, and then the chosen labels that stand in reported order are copied.
use native.Mathlib.Omega.{arith}
use mathlib.Core.Path.{ap}
use Rattle.std.specs.Prelude.{Err}
use Rattle.answers.proofs.Accepted.{few-transitions}
use Rattle.answers.proofs.Keeping.{assigned-as-key, assigned-front}
use Rattle.answers.proofs.Answers.{absent, not-whole, whole}
use Rattle.answers.proofs.judged.AcceptedTable.assignments_of.Goals as goal

pub refusal_for-requires : goal.refusal_for-requires
refusal_for-requires c = let n = few-transitions _ _ c.args.self.now.judged_so in omega arith

pub returns-then-count-k : goal.returns-then-count-k
returns-then-count-k c = absent _ _ _ _ _ _ c.if-count-k.true (ap Err c.refusal_for.ensures)

pub refusal_for-requires-then-assigned-l : goal.refusal_for-requires-then-assigned-l
refusal_for-requires-then-assigned-l c =
    let n = few-transitions _ _ c.args.self.now.judged_so in
    omega (arith, c.if-count-k.false)

pub returns-then-assigned-l : goal.returns-then-assigned-l
returns-then-assigned-l c =
    let e = c.args.self.now.judged_so in
    let put = rw c.basis-basis.ensures.table at c.put_assigned-assigned.ensures in
    not-whole _ _ _ _ _ _ c.if-count-k.false _ (assigned-as-key _ _ e _ c.if-count-k.false put) c.if-assigned-l.true
    (ap Err c.refusal_for-then-assigned-l.ensures)

pub returns : goal.returns
returns c =
    let e = c.args.self.now.judged_so in
    let put = rw c.basis-basis.ensures.table at c.put_assigned-assigned.ensures in
    let front = assigned-front _ _ e _ c.if-count-k.false put in
    whole _ _ _ _ _ _ c.if-count-k.false _ (assigned-as-key _ _ e _ c.if-count-k.false put) c.if-assigned-l.false
    (rw front at c.fill.ensures)
