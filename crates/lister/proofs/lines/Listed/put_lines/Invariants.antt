-- `put_lines` puts line after line: the invariant is that those of the transitions passed stand in front, and that as many more fit as are
-- left of those that fit at first.
use Rattle.lister.proofs.LinesPut.{Putting}
use Rattle.lister.proofs.lines.Listed.put_lines.Given as goal

abbrev pub invariant-loop-count : goal.invariant-loop-count
invariant-loop-count l = Putting l.self.basis.now.table.words.now l.self.basis.now.table.accepted.layout l.k l.left l.initial.pen l.pen l.count
