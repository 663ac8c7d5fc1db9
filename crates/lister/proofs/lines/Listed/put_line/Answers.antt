-- `put_line` has the bytes of transition k and its chosen labels in reported order put in front, and puts the line of both.
use Rattle.lister.proofs.LinesPut.{rows_there, rows_long, line-fits, line-put}
use Rattle.lister.proofs.lines.Listed.put_line.Goals as goal

pub slice_bounds-kept-end : goal.slice_bounds-kept-end
slice_bounds-kept-end c = rows_there c.args.self.now.ordered c.requires.0 c.put_assigned-chosen.ensures

pub slice_bounds-transition-end-2 : goal.slice_bounds-transition-end-2
slice_bounds-transition-end-2 c = rows_long c.args.self.now.ordered c.requires.0 c.put_assigned-chosen.ensures

pub transition-requires : goal.transition-requires
transition-requires c = line-fits c.args.self.now.ordered c.requires.0 c.put_assigned-chosen.ensures _ _ c.requires.1

pub returns : goal.returns
returns c = line-put c.args.self.now.ordered c.requires.0 c.put_assigned-chosen.ensures c.transition.ensures.put
