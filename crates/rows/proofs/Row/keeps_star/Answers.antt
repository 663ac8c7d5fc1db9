-- A star keeps its rule: it has no children, and its reads, from where those before it end, ascend.
use borrow.Author.Tests.{eq-eqb, ne_eqb}
use Rattle.rows.specs.Rows.{star_rule}
use Rattle.rows.proofs.Rules.{rest}
use Rattle.rows.proofs.Row.keeps_star.Goals as goal

pub returns-then-self : goal.returns-then-self
unfolding star_rule
returns-then-self c =
    let ascends = simp rest at c.are_ascending.ensures in
    simp (← c.args.self.ends, eq-eqb _ _ c.if-self.true)
    (simp (c.from-from.ensures, c.from_of.ensures, c.from-taken.ensures, c.arg_of.ensures) at ascends)

pub returns-else-self : goal.returns-else-self
unfolding star_rule
returns-else-self c = simp (← c.args.self.ends, ne_eqb _ _ c.if-self.false)
