-- The walk is given what an accepted table has, and leaves the bytes of transition k.
use native.Mathlib.Omega.{arith}
use borrow.Author.Rules.{rules}
use Rattle.answers.proofs.Keeping.{parts-reached, rows_fit, lent-walkable, keepable, bytes_left}
use Rattle.answers.proofs.numbered.Basis.put_kept.Goals as goal

pub offset_bounds-words-rows : goal.offset_bounds-words-rows
offset_bounds-words-rows c = let r = parts-reached _ _ c.args.self.now.table.judged_so in omega arith

pub slice_bounds-formula-count : goal.slice_bounds-formula-count
slice_bounds-formula-count c = let r = parts-reached _ _ c.args.self.now.table.judged_so in omega arith

pub slice_bounds-formula-start : goal.slice_bounds-formula-start
slice_bounds-formula-start c = let r = parts-reached _ _ c.args.self.now.table.judged_so in omega arith

pub overflow_cast-formula : goal.overflow_cast-formula
overflow_cast-formula c = let r = rows_fit _ _ c.args.self.now.table.judged_so in search rules

pub invariant_of-formula : goal.invariant_of-formula
invariant_of-formula c = record { shaped = (lent-walkable _ _ c.args.self.now.table.judged_so).shaped }

pub mark_kept-requires : goal.mark_kept-requires
mark_kept-requires c =
    let b = c.args.self.now in
    keepable _ _ b.table.judged_so _ c.requires.0 b.based c.requires.1

pub returns : goal.returns
returns c =
    let b = c.args.self.now in
    bytes_left _ _ b.table.judged_so _ c.requires.0 b.based c.mark_kept.ensures
