-- Section 3 opens, and its three searches stop where the definitions do. Rows that keep their rules are nested, and row 0 is
-- the root, so the walk from it has seen all rows.
use Prim.Native.Nat.{◌+◌}
use native.Mathlib.Omega.{arith}
use mathlib.Core.Path.{sym, ap, ◌∙◌}
use lib.ListN.{drop}
use lib.Seq.{get_or-drop}
use Rattle.paper.specs.declared.refusals.Fault.TheVariants.{RowBroken, TooDeep}
use Rattle.sections.specs.Sections.{halt, rows_at}
use Rattle.std.specs.Prelude.{Err}
use Rattle.rows.proofs.Rules.{rest}
use Rattle.rows.proofs.Depths.{top-deep}
use Rattle.sections.proofs.Opened.{opened_with, entries-there}
use Rattle.sections.proofs.ThirdSection.{none-broken, walk-asks, taken-small, some-broken, some_left, some-deep, none_deep}
use Rattle.sections.proofs.Cursor.rows.Goals as goal

pub returns-in_default : goal.returns-in_default
unfolding rows_at
returns-in_default c = simp (← c.open-opened.ensures, c.in_default.is)

pub overflow_cast-n : goal.overflow_cast-n
overflow_cast-n c = let o = opened_with _ _ _ _ _ c.open-opened.ensures c.in-Ok.is in omega arith

pub slice_bounds-rows-count : goal.slice_bounds-rows-count
slice_bounds-rows-count c = let o = opened_with _ _ _ _ _ c.open-opened.ensures c.in-Ok.is in omega arith

pub slice_bounds-rows-start : goal.slice_bounds-rows-start
slice_bounds-rows-start c = let o = opened_with _ _ _ _ _ c.open-opened.ensures c.in-Ok.is in omega arith

pub first_broken-broken-requires : goal.first_broken-broken-requires
first_broken-broken-requires c =
    let o = opened_with _ _ _ _ _ c.open-opened.ensures c.in-Ok.is in
    (omega (arith, entries-there o.fits), omega arith)

pub returns-then-broken-n : goal.returns-then-broken-n
returns-then-broken-n c =
    let o = opened_with _ _ _ _ _ c.open-opened.ensures c.in-Ok.is in
    ap Err c.refusal_for.ensures ∙ ap (halt RowBroken) c.from.ensures
    ∙ sym (some-broken _ _ _ _ o.came _ (simp rest at c.first_broken-broken.ensures) c.if-broken-n.true)

pub reads_taken-taken-requires : goal.reads_taken-taken-requires
reads_taken-taken-requires c =
    let o = opened_with _ _ _ _ _ c.open-opened.ensures c.in-Ok.is in
    (omega (arith, entries-there o.fits), omega arith)

pub refusal_for-requires-then-taken-self : goal.refusal_for-requires-then-taken-self
refusal_for-requires-then-taken-self c =
    let o = opened_with _ _ _ _ _ c.open-opened.ensures c.in-Ok.is in
    let taken = simp rest at c.reads_taken-taken.ensures in
    let few = taken-small (drop 1 c.args.part.now) (λ i. rw get_or-drop (c.type_inv.part (1 + i)).fits) c.in-Ok.next.count in
    omega arith

pub returns-then-taken-self : goal.returns-then-taken-self
returns-then-taken-self c =
    let o = opened_with _ _ _ _ _ c.open-opened.ensures c.in-Ok.is in
    ap Err c.refusal_for-then-taken-self.ensures
    ∙ sym (some_left _ _ _ _ o.came _ (simp rest at c.first_broken-broken.ensures) c.if-broken-n.false _ (simp rest at c.reads_taken-taken.ensures)
    c.if-taken-self.true)

pub first_deep-deep-requires : goal.first_deep-deep-requires
first_deep-deep-requires c =
    let o = opened_with _ _ _ _ _ c.open-opened.ensures c.in-Ok.is in
    let keep = none-broken _ _ _ _ _ c.first_broken-broken.ensures c.if-broken-n.false in
    walk-asks _ _ _ _ keep (omega (arith, entries-there o.fits)) o.fits.least o.fits.most

pub returns-then-deep-n : goal.returns-then-deep-n
returns-then-deep-n c =
    let o = opened_with _ _ _ _ _ c.open-opened.ensures c.in-Ok.is in
    let keep = none-broken _ _ _ _ _ c.first_broken-broken.ensures c.if-broken-n.false in
    let lowest = simp rest at (c.first_deep-deep.ensures ∙ top-deep _ _ _ _ (keep 0 o.fits.least)) in
    ap Err c.refusal_for-then-deep-n.ensures ∙ ap (halt TooDeep) c.from-then-deep-n.ensures
    ∙ sym (some-deep _ _ _ _ o.came _ (simp rest at c.first_broken-broken.ensures) c.if-broken-n.false _ (simp rest at c.reads_taken-taken.ensures)
    c.if-taken-self.false _ lowest c.if-deep-n.true)

pub returns : goal.returns
returns c =
    let o = opened_with _ _ _ _ _ c.open-opened.ensures c.in-Ok.is in
    let keep = none-broken _ _ _ _ _ c.first_broken-broken.ensures c.if-broken-n.false in
    let lowest = simp rest at (c.first_deep-deep.ensures ∙ top-deep _ _ _ _ (keep 0 o.fits.least)) in
    sym (none_deep _ _ _ _ o.came _ (simp rest at c.first_broken-broken.ensures) c.if-broken-n.false _ (simp rest at c.reads_taken-taken.ensures)
    c.if-taken-self.false _ lowest c.if-deep-n.false)
