-- The bytes of transition k are put, and the chosen labels among the kept are counted.
use native.Mathlib.Omega.{arith}
use mathlib.Core.Path.{◌∙◌}
use Rattle.answers.proofs.Keeping.{parts-reached, lent_below, front-there, front_length, chosen-counted}
use Rattle.answers.proofs.judged.AcceptedTable.keep.Goals as goal

pub offset_bounds-self-chosen : goal.offset_bounds-self-chosen
offset_bounds-self-chosen c = let r = parts-reached _ _ c.args.self.now.judged_so in omega arith

pub slice_bounds-count_kept-count : goal.slice_bounds-count_kept-count
slice_bounds-count_kept-count c = let r = parts-reached _ _ c.args.self.now.judged_so in omega arith

pub slice_bounds-count_kept-start : goal.slice_bounds-count_kept-start
slice_bounds-count_kept-start c = let r = parts-reached _ _ c.args.self.now.judged_so in omega arith

pub slice_bounds-count_kept-end-2 : goal.slice_bounds-count_kept-end-2
slice_bounds-count_kept-end-2 c =
    let put = rw c.basis-basis.ensures.table at c.put_kept.ensures in
    (front-there _ _ c.args.self.now.judged_so _ c.requires.0 _ _ put).0

pub slice_bounds-count_kept-end-3 : goal.slice_bounds-count_kept-end-3
slice_bounds-count_kept-end-3 c =
    let put = rw c.basis-basis.ensures.table at c.put_kept.ensures in
    front_length _ _ c.args.self.now.judged_so _ c.requires.0 _ _ put

pub count_kept-requires : goal.count_kept-requires
count_kept-requires c =
    let put = rw c.basis-basis.ensures.table at c.put_kept.ensures in
    let n = front_length _ _ c.args.self.now.judged_so _ c.requires.0 _ _ put in
    lent_below _ _ c.args.self.now.judged_so _ (omega arith)

pub returns : goal.returns
returns c =
    let put = rw c.basis-basis.ensures.table at c.put_kept.ensures in
    record { bytes = put; many = c.count_kept.ensures ∙ chosen-counted _ _ c.args.self.now.judged_so _ c.requires.0 _ _ put }
