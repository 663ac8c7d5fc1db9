-- `value_of` reads the formula at a row. The recursion goes by the levels left, and the loop over the expressions under the row
-- by those passed: joined to what they gave, those still to come give the value (`Walking`).
use mathlib.Core.Path.{◌≡◌}
use Rattle.rows.proofs.Walks.{Walking}
use Rattle.rows.proofs.walk.Formula.+value_of.Given as goal

abbrev pub decreases-value_of : goal.decreases-value_of
decreases-value_of g l = l.left

abbrev pub invariant-loop-child : goal.invariant-loop-child
invariant-loop-child g l =
    record {
      same : l.child-iterator.rows.now ≡ l.self.rows.now;
      walking :
          Walking (g.W.Folding.fold l.walk) l.self.rows.now l.self.n l.left l.fn.at.0 l.conj l.acc l.child-iterator.more l.child-iterator.at;
    }
