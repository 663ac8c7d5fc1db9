-- Each way out of a visit has its law: the index is placed, still waits, is blocked, or is ready.
use mathlib.Core.Path.{refl}
use borrow.Author.Tests.{eq-eqb, ne_eqb}
use Rattle.fingers.specs.Inside.Graph.{free}
use Rattle.ordering.proofs.Moves.{visit-placed, visit-ready, visit-blocked}
use Rattle.ordering.proofs.Waits.visit.Goals as goal

pub returns-then-placed-k-ne0 : goal.returns-then-placed-k-ne0
unfolding free
returns-then-placed-k-ne0 c = visit-placed _ _ _ _ _ _ c.requires.1 c.requires.0 _ refl (ne_eqb _ 0 c.if-placed-k-ne0.true)

pub returns-then-l-size : goal.returns-then-l-size
returns-then-l-size c =
    visit-blocked _ _ _ _ _ _ c.requires.1 c.requires.0 _ refl _ _ c.seek-x.ensures.next c.if-l-size.true _ c.lower.ensures

pub returns : goal.returns
unfolding free
returns c =
    visit-ready _ _ _ _ _ _ c.requires.1 c.requires.0 _ refl (eq-eqb _ 0 c.if-placed-k-ne0.false) _ _ c.seek-x.ensures.next c.if-l-size.false
