-- The marks of the chosen labels, and the keys of the whole formula: each is given what an accepted table has.
use native.Mathlib.Omega.{arith}
use borrow.Author.Rules.{rules}
use Rattle.paper.specs.Limits.{most_rows}
use Rattle.answers.proofs.Keeping.{parts-reached, rows_fit, lent_below, lent-walkable, based-so, is-based}
use Rattle.answers.proofs.judged.AcceptedTable.basis.Goals as goal

pub offset_bounds-words-chosen : goal.offset_bounds-words-chosen
offset_bounds-words-chosen c = let r = parts-reached _ _ c.args.self.now.judged_so in omega arith

pub slice_bounds-marks_of-count : goal.slice_bounds-marks_of-count
slice_bounds-marks_of-count c = let r = parts-reached _ _ c.args.self.now.judged_so in omega arith

pub slice_bounds-marks_of-start : goal.slice_bounds-marks_of-start
slice_bounds-marks_of-start c = let r = parts-reached _ _ c.args.self.now.judged_so in omega arith

pub marks_of-marks-requires : goal.marks_of-marks-requires
marks_of-marks-requires c = let e = c.args.self.now.judged_so in lent_below _ _ e most_rows (rows_fit _ _ e)

pub offset_bounds-words-rows : goal.offset_bounds-words-rows
offset_bounds-words-rows c = let r = parts-reached _ _ c.args.self.now.judged_so in omega arith

pub slice_bounds-formula-count : goal.slice_bounds-formula-count
slice_bounds-formula-count c = let r = parts-reached _ _ c.args.self.now.judged_so in omega arith

pub slice_bounds-formula-start : goal.slice_bounds-formula-start
slice_bounds-formula-start c = let r = parts-reached _ _ c.args.self.now.judged_so in omega arith

pub overflow_cast-formula : goal.overflow_cast-formula
overflow_cast-formula c = let r = rows_fit _ _ c.args.self.now.judged_so in search rules

pub keys_of-own-requires : goal.keys_of-own-requires
keys_of-own-requires c = (lent-walkable _ _ c.args.self.now.judged_so).here

pub invariant_of-formula : goal.invariant_of-formula
invariant_of-formula c = record { shaped = (lent-walkable _ _ c.args.self.now.judged_so).shaped }

pub invariant_of-result : goal.invariant_of-result
invariant_of-result c =
    record { based = is-based _ _ (based-so _ _ c.args.self.now.judged_so c.marks_of-marks.ensures c.keys_of-own.ensures.0) }
