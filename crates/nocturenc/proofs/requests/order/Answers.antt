-- The order that the judgement leaves is copied into the lent slice, or the refusal is the answer.
use mathlib.Core.Path.{sym}
use lib.Seq.{length-take-le}
use Rattle.std.proofs.lemmas.Result.{err_from_is_err_and}
use Rattle.answers.proofs.Accepted.{order_there, order-filled}
use Rattle.answers.proofs.Answers.{refused-first}
use Rattle.nocturenc.proofs.requests.order.Goals as goal

pub slice_bounds-reported-end : goal.slice_bounds-reported-end
slice_bounds-reported-end c = (order_there _ _ _ _ c.judge_into.ensures _ c.in_ok-accepted.was).0

pub slice_bounds-fill-end : goal.slice_bounds-fill-end
slice_bounds-fill-end c =
    sym (length-take-le _ _ (order_there _ _ _ _ c.judge_into.ensures _ c.in_ok-accepted.was).0)

pub returns : goal.returns
returns c = order-filled _ _ _ _ c.judge_into.ensures _ c.in_ok-accepted.was c.fill.ensures

pub returns-in_err-accepted : goal.returns-in_err-accepted
returns-in_err-accepted c =
    let p = err_from_is_err_and c.from_residual.result c.from_residual.ensures.1 in
    rw (p.1, p.2) (refused-first _ _ c.judge_into.ensures.answered _ c.in_err-accepted.was _ _)
