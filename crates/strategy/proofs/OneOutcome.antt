-- For each public function, any two outcomes that its contract allows are equal: the answer, and every word lent for the order.
use mathlib.Core.Path.{refl}
use Rattle.paper.specs.Outcome.{OneOutcome}
use Rattle.paper.proofs.Outcome.{by-equation}
use Rattle.strategy.proofs as strategy
use Rattle.strategy.proofs.checks as checks
use Rattle.strategy.proofs.choice as choice

pub first-stranger :
    OneOutcome choice.first_stranger.Kinds.ps choice.first_stranger.Kinds.r choice.first_stranger.Reads.Pre choice.first_stranger.Reads.Post
first-stranger κs a pre x y v w p q = (by-equation p q, refl)

pub judge : OneOutcome strategy.judge.Kinds.ps strategy.judge.Kinds.r strategy.judge.Reads.Pre strategy.judge.Reads.Post
judge κs a pre x y v w p q = (by-equation p q, refl)

pub judge-into : OneOutcome strategy.judge_into.Kinds.ps strategy.judge_into.Kinds.r strategy.judge_into.Reads.Pre strategy.judge_into.Reads.Post
judge-into κs a pre x y v w p q = (by-equation p.answered q.answered, λ i. (tt, (by-equation p.left_so q.left_so i, tt)))

pub judge-parts : OneOutcome checks.judge_parts.Kinds.ps checks.judge_parts.Kinds.r checks.judge_parts.Reads.Pre checks.judge_parts.Reads.Post
judge-parts κs a pre x y v w p q = (by-equation p.answered q.answered, λ i. (tt, (tt, (tt, (tt, (by-equation p.left_so q.left_so i, tt))))))
