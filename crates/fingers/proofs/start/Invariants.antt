-- The loop's invariant: the fingers of the indices below j are at their starts, and the words from j on are as they were.
use Rattle.fingers.specs.Inside.Spots.{AtStart}
use Rattle.fingers.proofs.start.Given as goal

abbrev pub invariant-loop-j : goal.invariant-loop-j
invariant-loop-j l = AtStart l.c.rows.now l.c.chosen.now l.j l.initial.finger l.finger
