-- `marks_of` gives the marks of the chosen labels. The loop's invariant: the marks are those of the labels passed.
use mathlib.Core.List.{map}
use lib.ListN.{take}
use Rattle.paper.specs.Formula.{ℓ}
use Rattle.marks.specs.Inside.Chosen.{MarkedExactly}
use Rattle.marks.proofs.marks_of.Given as goal

abbrev pub invariant-loop-label : goal.invariant-loop-label
invariant-loop-label l = MarkedExactly (map ℓ (take l.label-index l.chosen)) l.marks
