-- Section 1 opens, and the search for a name that falls stops where `first` does.
use native.Mathlib.Omega.{arith}
use mathlib.Core.Path.{ap, ◌∙◌}
use Rattle.sections.specs.Sections.{variables_at}
use Rattle.std.specs.Prelude.{Err}
use Rattle.rows.proofs.Rules.{rest}
use Rattle.sections.proofs.Opened.{opened_with, some-bad, none-bad, entries-there}
use Rattle.sections.proofs.Cursor.variables.Goals as goal

pub returns-in_default : goal.returns-in_default
unfolding variables_at
returns-in_default c = simp (← c.open-opened.ensures, c.in_default.is)

pub slice_bounds-first_fall-count : goal.slice_bounds-first_fall-count
slice_bounds-first_fall-count c = let o = opened_with _ _ _ _ _ c.open-opened.ensures c.in-Ok.is in omega arith

pub slice_bounds-first_fall-start : goal.slice_bounds-first_fall-start
slice_bounds-first_fall-start c = let o = opened_with _ _ _ _ _ c.open-opened.ensures c.in-Ok.is in omega arith

pub first_fall-k-requires : goal.first_fall-k-requires
first_fall-k-requires c = let o = opened_with _ _ _ _ _ c.open-opened.ensures c.in-Ok.is in omega (arith, entries-there o.fits)

pub overflow_add-at-then-k-n : goal.overflow_add-at-then-k-n
overflow_add-at-then-k-n c = let o = opened_with _ _ _ _ _ c.open-opened.ensures c.in-Ok.is in omega arith

pub refusal_for-requires : goal.refusal_for-requires
refusal_for-requires c = let o = opened_with _ _ _ _ _ c.open-opened.ensures c.in-Ok.is in omega arith

pub returns-then-k-n : goal.returns-then-k-n
unfolding variables_at
returns-then-k-n c =
    let o = opened_with _ _ _ _ _ c.open-opened.ensures c.in-Ok.is in
    ap Err c.refusal_for.ensures ∙ some-bad o _ _ _ _ (simp rest at c.first_fall-k.ensures) c.if-k-n.true

pub returns : goal.returns
unfolding variables_at
returns c = none-bad (opened_with _ _ _ _ _ c.open-opened.ensures c.in-Ok.is) _ _ _ _ (simp rest at c.first_fall-k.ensures) c.if-k-n.false
