-- An index below the size is looked up; no other is one.
use borrow.Author.Tests.{lt-ltb}
use Rattle.fingers.specs.Inside.Graph.{free}
use Rattle.ordering.proofs.is_waiting.Goals as goal

pub returns-then-w-size : goal.returns-then-w-size
unfolding free
returns-then-w-size c = simp (lt-ltb _ _ c.if-w-size.true)
