-- `covering_of` gives the lowest variable that is missed, else the lowest that is doubled. The loop's invariant: no variable
-- passed is missed, and the lowest of them that is doubled is known (`Passed`).
use Rattle.cover.proofs.Blocks.{Passed}
use Rattle.cover.proofs.covering_of.Given as goal

abbrev pub invariant-loop-block : goal.invariant-loop-block
invariant-loop-block l = Passed l.f.formula.rows.now l.f.marks.now l.variables l.block l.two
