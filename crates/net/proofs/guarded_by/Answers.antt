-- The star of the innermost guard around a row: that of the row over it, or that row's own star where it is an exists or an
-- IF and the row is past the star.
use native.Mathlib.Omega.{arith}
use mathlib.Core.Path.{sym, ap, ◌∙◌}
use mathlib.Core.Logic.{inl, inr}
use Rattle.paper.specs.Formula.{ℓ}
use Rattle.rows.proofs.Rules.{number_of}
use Rattle.net.proofs.Climb.{Parent, parent_by}
use Rattle.net.proofs.Guarding.{guard-here, guard-further}
use Rattle.net.proofs.guarded_by.Goals.{After-label_at-top}
use Rattle.net.proofs.guarded_by.Goals as goal

-- the row noted is right over it

module _ (c : After-label_at-top) where
  over : let a = c.args in Parent a.c.now.rows.now a.at.0 c.label_at-top.result.0
  over = let p = c.requires in parent_by _ _ _ _ c.args.c.now.made.tree p.0 p.1 (number_of c.label_at-top.ensures ∙ p.2)

pub kind_of-requires : goal.kind_of-requires
kind_of-requires c = let l = (over (goal.at.kind_of-requires c).After-label_at-top).reached.below in omega arith

pub label_at-requires : goal.label_at-requires
label_at-requires c = let l = (over (goal.at.label_at-requires c).After-label_at-top).reached.below in omega arith

pub returns-then-kind_of-lt5 : goal.returns-then-kind_of-lt5
returns-then-kind_of-lt5 c =
    let p = c.requires in
    let o = over (goal.at.returns-then-kind_of-lt5 c).After-label_at-top in
    c.label_at.ensures ∙ ap ℓ (p.3 _ o.reached.below ∙ sym (guard-further _ _ _ _ c.args.c.now.made.tree o p.1 (inl (omega arith))))

pub overflow_add-top : goal.overflow_add-top
overflow_add-top c = let l = (over (goal.at.overflow_add-top c).After-label_at-top).reached.below in omega arith

pub returns-then-at-top : goal.returns-then-at-top
returns-then-at-top c =
    let p = c.requires in
    let o = over (goal.at.returns-then-at-top c).After-label_at-top in
    c.label_at-then-at-top.ensures ∙ ap ℓ (p.3 _ o.reached.below ∙ sym (guard-further _ _ _ _ c.args.c.now.made.tree o p.1 (inr c.if-at-top.true)))

pub overflow_add-result : goal.overflow_add-result
overflow_add-result c = let l = (over (goal.at.overflow_add-result c).After-label_at-top).reached.below in omega arith

pub returns : goal.returns
returns c =
    let p = c.requires in
    let o = over (goal.at.returns c).After-label_at-top in
    ap ℓ (sym (guard-here _ _ _ _ c.args.c.now.made.tree o p.1 (omega arith) (let l = o.reached.below in omega arith)))
