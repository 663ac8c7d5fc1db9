-- The row over a row: on the way up from the row before it no row passed is over it, and the first row of all is.
use native.Mathlib.Omega.{arith}
use mathlib.Core.Path.{sym, ap}
use Rattle.paper.specs.Formula.{ℓ}
use Rattle.rows.proofs.Rules.{number_of}
use Rattle.net.proofs.Climb.{Parent, reached-next, parent_is, parent-noted}
use Rattle.net.proofs.climbed.Goals.{After-label_at-top}
use Rattle.net.proofs.climbed.Goals as goal

-- the next row on the way is right over this one

module _ (c : After-label_at-top) where
  up : let l = c in
      Parent l.args.c.now.rows.now l.loop-at.top.0 c.label_at-top.result.0
  up =
      let l = c in
      let s = l in
      let p = s.requires in
      let e = number_of c.end_of.ensures in
      parent-noted _ _ _ _ _ s.args.parents.now s.args.c.now.made.tree p.1 p.2 l.loop-at.invariant (omega arith) (number_of c.label_at-top.ensures)

pub loop-at-smaller : goal.loop-at-smaller
loop-at-smaller c = (up (goal.at.loop-at-smaller c).After-label_at-top).reached.below

pub loop-at-preserved : goal.loop-at-preserved
loop-at-preserved c =
    let z = number_of c.end_of.ensures in
    reached-next _ c.loop-at.invariant (omega arith) (up (goal.at.loop-at-preserved c).After-label_at-top)

pub returns : goal.returns
returns c =
    let e = number_of c.end_of.ensures in
    ap ℓ (sym (parent_is _ _ _ record { reached = c.loop-at.invariant; over = omega arith }))
