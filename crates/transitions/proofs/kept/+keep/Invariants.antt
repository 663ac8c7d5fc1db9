-- `keep` sets the bytes of the labels that a key keeps. The recursion goes by the levels left, and the loop over the expressions
-- under a row by what those still to come have to keep (`Taking`).
use mathlib.Core.Path.{◌≡◌}
use Rattle.transitions.proofs.Taking.{Taking}
use Rattle.transitions.proofs.kept.+keep.Given as goal

abbrev pub decreases-keep : goal.decreases-keep
decreases-keep l = l.left

abbrev pub invariant-loop-child : goal.invariant-loop-child
invariant-loop-child l =
    record {
      same : l.child-iterator.rows.now ≡ l.f.formula.rows.now;
      taking :
          Taking l.f.formula.rows.now l.f.marks.now l.f.formula.n l.left l.fn.at.0 l.fn.k l.initial.out l.out l.s
          l.child-iterator.more l.child-iterator.at;
    }
