-- The judgement's refusal is the answer, or what is asked of the accepted table is, by the order that the judgement leaves.
use Rattle.std.proofs.lemmas.Result.{err_from_is_err_and}
use Rattle.answers.proofs.Answers.{refused-first, accepted-first}
use Rattle.answers.proofs.Accepted.{order-stands}
use Rattle.nocturenc.proofs.requests.assignments.Goals as goal

pub assignments_of-requires : goal.assignments_of-requires
assignments_of-requires c = order-stands _ _ _ _ c.judge_into.ensures _ c.in_ok-accepted.was

pub returns : goal.returns
returns c = accepted-first _ _ c.judge_into.ensures.answered _ c.in_ok-accepted.was _ c.assignments_of.ensures

pub returns-in_err-accepted : goal.returns-in_err-accepted
returns-in_err-accepted c =
    let p = err_from_is_err_and c.from_residual.result c.from_residual.ensures.1 in
    rw (p.1, p.2) (refused-first _ _ c.judge_into.ensures.answered _ c.in_err-accepted.was _ _)
