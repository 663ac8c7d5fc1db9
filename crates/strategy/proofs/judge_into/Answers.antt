-- The table's own refusal is the answer, or its parts are lent to the checks and judged.
use native.Mathlib.Omega.{arith}
use mathlib.Core.Path.{sym, ◌∙◌}
use Rattle.std.proofs.lemmas.Result.{err_from_is_err_and}
use Rattle.strategy.proofs.Held.{reached, parts-lent}
use Rattle.strategy.proofs.Answers.{refused-whole, judged-lent}
use Rattle.strategy.proofs.judge_into.Goals as goal

pub overflow_add-behind : goal.overflow_add-behind
overflow_add-behind c = let r = reached _ _ (sym c.check.ensures ∙ c.in_ok-l.was) in omega arith

pub offset_bounds-words-rows : goal.offset_bounds-words-rows
offset_bounds-words-rows c = let r = reached _ _ (sym c.check.ensures ∙ c.in_ok-l.was) in omega arith

pub slice_bounds-judge_parts-count : goal.slice_bounds-judge_parts-count
slice_bounds-judge_parts-count c = let r = reached _ _ (sym c.check.ensures ∙ c.in_ok-l.was) in omega arith

pub slice_bounds-judge_parts-start : goal.slice_bounds-judge_parts-start
slice_bounds-judge_parts-start c = let r = reached _ _ (sym c.check.ensures ∙ c.in_ok-l.was) in omega arith

pub offset_bounds-words-reads : goal.offset_bounds-words-reads
offset_bounds-words-reads c = let r = reached _ _ (sym c.check.ensures ∙ c.in_ok-l.was) in omega arith

pub slice_bounds-judge_parts-end-2 : goal.slice_bounds-judge_parts-end-2
slice_bounds-judge_parts-end-2 c = let r = reached _ _ (sym c.check.ensures ∙ c.in_ok-l.was) in omega arith

pub offset_bounds-words-chosen : goal.offset_bounds-words-chosen
offset_bounds-words-chosen c = let r = reached _ _ (sym c.check.ensures ∙ c.in_ok-l.was) in omega arith

pub slice_bounds-judge_parts-count-3 : goal.slice_bounds-judge_parts-count-3
slice_bounds-judge_parts-count-3 c = let r = reached _ _ (sym c.check.ensures ∙ c.in_ok-l.was) in omega arith

pub slice_bounds-judge_parts-start-3 : goal.slice_bounds-judge_parts-start-3
slice_bounds-judge_parts-start-3 c = let r = reached _ _ (sym c.check.ensures ∙ c.in_ok-l.was) in omega arith

pub judge_parts-requires : goal.judge_parts-requires
judge_parts-requires c =
    (parts-lent _ _ (sym c.check.ensures ∙ c.in_ok-l.was), c.requires)

pub returns : goal.returns
returns c = judged-lent (sym c.check.ensures ∙ c.in_ok-l.was) c.judge_parts.ensures

pub returns-in_err-l : goal.returns-in_err-l
returns-in_err-l c =
    let p = err_from_is_err_and c.from_residual.result c.from_residual.ensures.1 in
    rw (p.1, p.2) (refused-whole _ (sym c.check.ensures ∙ c.in_err-l.was))
