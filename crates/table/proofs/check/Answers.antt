-- The answer is that of the sections, and the counts that passed are small.
use mathlib.Core.Path.{sym, ap, ◌∙◌}
use Rattle.std.specs.Prelude.{Ok}
use Rattle.std.proofs.lemmas.Result.{err_from_is_err_and}
use Rattle.table.specs.Table.{as_checked, checked}
use Rattle.table.proofs.LaidExactly.{counts-small}
use Rattle.table.proofs.check.Goals as goal

pub laid_out-requires : goal.laid_out-requires
laid_out-requires c = counts-small _ _ (sym c.sections.ensures ∙ c.in_ok-found.was)

pub returns-in_err-found : goal.returns-in_err-found
unfolding checked
returns-in_err-found c =
    let p = err_from_is_err_and c.from_residual.result c.from_residual.ensures.1 in
    rw (p.1, p.2) (ap as_checked (sym c.in_err-found.was ∙ c.sections.ensures))

pub returns : goal.returns
unfolding checked
returns c = ap Ok c.laid_out.ensures ∙ ap as_checked (sym c.in_ok-found.was ∙ c.sections.ensures)
