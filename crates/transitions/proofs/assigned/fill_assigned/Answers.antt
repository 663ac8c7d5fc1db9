-- `fill_assigned` holds at the front of the slice the kept labels among those passed, and what follows them stays (`Filling`).
use mathlib.Core.Path.{sym, ◌∙◌}
use Rattle.transitions.proofs.Fronts.{filling-room, filling-puts, filling-passes}
use Rattle.transitions.proofs.assigned.fill_assigned.Goals.{then-is_marked, else-is_marked}
use Rattle.transitions.proofs.assigned.fill_assigned.Goals as goal

pub bounds-out-filled : goal.bounds-out-filled
bounds-out-filled c =
    filling-room c.requires.room c.loop-label.invariant c.loop-label-test.true (sym c.is_marked.ensures ∙ c.if-is_marked.true)

pub loop-label-preserved : goal.loop-label-preserved
loop-label-preserved c = elim c.if-is_marked.branch [
  | then-is_marked w ↦
      filling-puts c.requires.room c.loop-label.invariant c.loop-label-test.true c.if-is_marked.auto.out
      (sym c.is_marked.ensures ∙ w.if-is_marked.true) w.out-is w.filled-is
  | else-is_marked w ↦
      filling-passes c.requires.room c.loop-label.invariant c.loop-label-test.true c.if-is_marked.auto.out
      (sym c.is_marked.ensures ∙ w.if-is_marked.false) w.out-is w.filled-is
]
