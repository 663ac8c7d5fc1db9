-- A FALSE row keeps its rule: each test is one of the rule's.
use borrow.Author.Tests.{eq-eqb, ne_eqb}
use Rattle.rows.specs.Rows.{false_rule}
use Rattle.rows.proofs.Row.keeps_false.Goals as goal

pub returns-then-arg_of-eq0 : goal.returns-then-arg_of-eq0
unfolding false_rule
returns-then-arg_of-eq0 c = simp (← c.arg_of.ensures, eq-eqb _ _ c.if-arg_of-eq0.true, ← c.args.self.ends)

pub returns-else-arg_of-eq0 : goal.returns-else-arg_of-eq0
unfolding false_rule
returns-else-arg_of-eq0 c = simp (← c.arg_of.ensures, ne_eqb _ _ c.if-arg_of-eq0.false)
