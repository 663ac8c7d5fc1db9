-- Once the bytes stand in front, the chosen labels among the kept are picked in reported order.
use Rattle.answers.proofs.Keeping.{front-there, front_length, fillable, assigned-so}
use Rattle.answers.proofs.numbered.Basis.put_assigned.Goals as goal

pub slice_bounds-fill_assigned-end : goal.slice_bounds-fill_assigned-end
slice_bounds-fill_assigned-end c = (front-there _ _ c.args.self.now.table.judged_so _ c.requires.1 _ _ c.put_kept.ensures).0

pub slice_bounds-fill_assigned-end-2 : goal.slice_bounds-fill_assigned-end-2
slice_bounds-fill_assigned-end-2 c = front_length _ _ c.args.self.now.table.judged_so _ c.requires.1 _ _ c.put_kept.ensures

pub fill_assigned-requires : goal.fill_assigned-requires
fill_assigned-requires c =
    fillable _ _ c.args.self.now.table.judged_so _ c.requires.1 _ _ c.put_kept.ensures _ c.requires.0 _ c.requires.3

pub returns : goal.returns
returns c =
    assigned-so _ _ c.args.self.now.table.judged_so _ c.requires.1 _ _ c.put_kept.ensures _ c.requires.0 _ _ _ c.fill_assigned.ensures.filled
    c.fill_assigned.ensures.after
