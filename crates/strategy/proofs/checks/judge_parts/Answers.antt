-- A stranger is refused, then what the covering finds; parts that pass both are ordered and counted.
use mathlib.Core.Path.{refl, sym, ap, ◌∙◌}
use Rattle.std.specs.Prelude.{Err}
use Rattle.std.proofs.lemmas.Result.{err_from_is_err_and}
use Rattle.paper.specs.declared.refusals.Fault.TheVariants.{NoCandidate}
use Rattle.paper.specs.Refusals.{refusal}
use Rattle.strategy.proofs.Held.{walkable}
use Rattle.strategy.proofs.Answers.{stranger-refused, uncovered-refused, all-covered, covered-judged}
use Rattle.strategy.proofs.checks.judge_parts.Goals as goal

pub returns-then-k-chosen : goal.returns-then-k-chosen
returns-then-k-chosen c =
    stranger-refused _ c.requires.0 c.first_stranger-k.ensures _ c.if-k-chosen.true (ap Err (c.refusal_for.ensures ∙ ap (refusal NoCandidate) c.from.ensures))

pub invariant_of-formula : goal.invariant_of-formula
invariant_of-formula c = record { shaped = (walkable c.requires.0).shaped }

pub returns-in_err-covering_of : goal.returns-in_err-covering_of
returns-in_err-covering_of c =
    let p = err_from_is_err_and c.from_residual.result c.from_residual.ensures.1 in
    uncovered-refused _ c.requires.0 c.first_stranger-k.ensures c.marks_of-marks.ensures.marked c.if-k-chosen.false
    _ (sym c.covering_of.ensures ∙ c.in_err-covering_of.was) (p.1 ∙ ap Err p.2)

pub ordered-requires : goal.ordered-requires
ordered-requires c = (
  all-covered c.args.l c.requires.0 c.first_stranger-k.ensures c.marks_of-marks.ensures.marked c.if-k-chosen.false
      (sym c.covering_of.ensures ∙ c.in_ok-covering_of.was),
  refl,
  c.marks_of-marks.ensures.marked,
  c.requires.1,
)

pub returns : goal.returns
returns c =
    covered-judged _ c.requires.0 c.first_stranger-k.ensures c.marks_of-marks.ensures.marked c.if-k-chosen.false
    (sym c.covering_of.ensures ∙ c.in_ok-covering_of.was) c.ordered.ensures
