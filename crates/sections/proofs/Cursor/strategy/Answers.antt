-- Section 4 opens, and the search for an unfit entry stops where `first` does.
use native.Mathlib.Omega.{arith}
use native.Mathlib.Nat.{zero-add}
use mathlib.Core.Path.{sym, ap, ◌∙◌}
use Rattle.paper.specs.declared.refusals.Fault.TheVariants.{EntryUnfit}
use Rattle.sections.specs.Sections.{halt, strategy_at}
use Rattle.std.specs.Prelude.{Err}
use Rattle.rows.proofs.Rules.{rest}
use Rattle.sections.proofs.Opened.{opened_with, some-bad, none-bad, entries-there}
use Rattle.sections.proofs.Cursor.strategy.Goals as goal

pub returns-in_default : goal.returns-in_default
unfolding strategy_at
returns-in_default c = simp (← c.open-opened.ensures, c.in_default.is)

pub slice_bounds-first_unfit-count : goal.slice_bounds-first_unfit-count
slice_bounds-first_unfit-count c = let o = opened_with _ _ _ _ _ c.open-opened.ensures c.in-Ok.is in omega arith

pub slice_bounds-first_unfit-start : goal.slice_bounds-first_unfit-start
slice_bounds-first_unfit-start c = let o = opened_with _ _ _ _ _ c.open-opened.ensures c.in-Ok.is in omega arith

pub first_unfit-k-requires : goal.first_unfit-k-requires
first_unfit-k-requires c = let o = opened_with _ _ _ _ _ c.open-opened.ensures c.in-Ok.is in omega (arith, entries-there o.fits)

pub refusal_for-requires : goal.refusal_for-requires
refusal_for-requires c = let o = opened_with _ _ _ _ _ c.open-opened.ensures c.in-Ok.is in omega arith

pub returns-then-k-n : goal.returns-then-k-n
unfolding strategy_at
returns-then-k-n c =
    let o = opened_with _ _ _ _ _ c.open-opened.ensures c.in-Ok.is in
    ap Err c.refusal_for.ensures ∙ ap (halt EntryUnfit) (sym (zero-add _)) ∙ some-bad o _ _ _ _ (simp rest at c.first_unfit-k.ensures) c.if-k-n.true

pub returns : goal.returns
unfolding strategy_at
returns c = none-bad (opened_with _ _ _ _ _ c.open-opened.ensures c.in-Ok.is) _ _ _ _ (simp rest at c.first_unfit-k.ensures) c.if-k-n.false
