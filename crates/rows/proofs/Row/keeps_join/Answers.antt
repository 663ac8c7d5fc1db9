-- A conjunction or disjunction keeps its rule: it has children, and they meet its end.
use native.Mathlib.Omega.{arith}
use borrow.Author.Tests.{lt-ltb, le-ltb}
use Rattle.rows.specs.Rows.{join_rule}
use Rattle.rows.proofs.Row.keeps_join.Goals as goal

pub returns-then-children-gt0 : goal.returns-then-children-gt0
unfolding join_rule
returns-then-children-gt0 c =
    let arg = c.arg_of-children in
    simp (← arg.ensures, lt-ltb 0 arg.result c.if-children-gt0.true, ← c.args.self.ends) c.children_meet.ensures

pub returns-else-children-gt0 : goal.returns-else-children-gt0
unfolding join_rule
returns-else-children-gt0 c =
    let arg = c.arg_of-children in
    simp (← arg.ensures, le-ltb 0 arg.result (omega arith))
