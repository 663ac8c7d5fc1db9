-- `fill_assigned` holds at the front of the slice the kept labels among those passed, and what follows them stays (`Filling`).
use lib.ListN.{take}
use Rattle.transitions.proofs.Fronts.{Filling}
use Rattle.transitions.proofs.assigned.fill_assigned.Given as goal

abbrev pub invariant-loop-label : goal.invariant-loop-label
invariant-loop-label l = Filling (take l.count l.order) l.kept l.initial.out l.out l.filled l.label-index
