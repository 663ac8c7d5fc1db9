-- The answer is that of the judgement, case by case.
use mathlib.Core.Path.{sym, ap, ◌∙◌}
use Rattle.std.specs.Prelude.{Ok}
use Rattle.std.proofs.lemmas.Result.{err_from_is_err_and}
use Rattle.answers.specs.Requests.{judge_answer, judge_of}
use Rattle.nocturenc.proofs.requests.judge.Goals as goal

pub returns-in_err-found : goal.returns-in_err-found
unfolding judge_of
returns-in_err-found c =
    let p = err_from_is_err_and c.from_residual.result c.from_residual.ensures.1 in
    rw (p.1, p.2) (ap judge_answer (sym c.in_err-found.was ∙ c.judge.ensures))

pub returns : goal.returns
unfolding judge_of
returns c = ap Ok c.from.ensures ∙ ap judge_answer (sym c.in_ok-found.was ∙ c.judge.ensures)
