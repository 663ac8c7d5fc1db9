-- A mark of 1 is done; any other is compared.
use borrow.Author.Tests.{eq-eqb, ne_eqb}
use Rattle.fingers.specs.Inside.Graph.{outside}
use Rattle.fingers.proofs.is_outside.Goals as goal

pub returns-then-m-ne1 : goal.returns-then-m-ne1
unfolding outside
returns-then-m-ne1 c = rw (← c.from-m.ensures, ne_eqb _ _ c.if-m-ne1.true)

pub returns-else-m-ne1 : goal.returns-else-m-ne1
unfolding outside
returns-else-m-ne1 c = rw (← c.from-m.ensures, eq-eqb _ _ c.if-m-ne1.false)
