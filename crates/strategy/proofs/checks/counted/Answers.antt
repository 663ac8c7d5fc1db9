-- The count is past 65,535, or it is the number of an acceptance.
use mathlib.Core.Path.{ap, ◌∙◌}
use Rattle.std.specs.Prelude.{Err}
use Rattle.keys.specs.Inside.Keys.{total}
use Rattle.strategy.proofs.Verdicts.{counted-past, counted-fits}
use Rattle.strategy.proofs.checks.counted.Goals as goal

pub returns-then-transitions-gt-MOST_TRANSITIONS : goal.returns-then-transitions-gt-MOST_TRANSITIONS
returns-then-transitions-gt-MOST_TRANSITIONS c =
    let t = c in
    counted-past _ (t.total_of-transitions.ensures ∙ ap total t.keys_of.ensures.0) c.if-transitions-gt-MOST_TRANSITIONS.true (ap Err c.refusal_for.ensures)

pub returns : goal.returns
returns c =
    let t = c in
    counted-fits _ (t.total_of-transitions.ensures ∙ ap total t.keys_of.ensures.0) c.if-transitions-gt-MOST_TRANSITIONS.false
