-- An exists or IF row keeps its rule: each test is one of the rule's.
use borrow.Author.Tests.{eq-eqb, ne_eqb}
use Rattle.rows.specs.Rows.{bound_rule}
use Rattle.rows.proofs.Row.keeps_bound.Goals as goal

pub returns-then-arg_of-eq0 : goal.returns-then-arg_of-eq0
unfolding bound_rule
returns-then-arg_of-eq0 c = simp (← c.arg_of.ensures, eq-eqb _ _ c.if-arg_of-eq0.true) c.guard_meets.ensures

pub returns-else-arg_of-eq0 : goal.returns-else-arg_of-eq0
unfolding bound_rule
returns-else-arg_of-eq0 c = simp (← c.arg_of.ensures, ne_eqb _ _ c.if-arg_of-eq0.false)
