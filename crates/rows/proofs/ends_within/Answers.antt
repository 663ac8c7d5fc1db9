-- Row 0 ends at n, any other row at n or before: by the same test as in the definition.
use borrow.Author.Tests.{eq-eqb, ne_eqb}
use Rattle.rows.specs.Rows.{ends_within}
use Rattle.rows.proofs.ends_within.Goals as goal

pub returns-then-at-eq0 : goal.returns-then-at-eq0
unfolding ends_within
returns-then-at-eq0 c = simp (eq-eqb _ _ c.if-at-eq0.true)

pub returns : goal.returns
unfolding ends_within
returns c = simp (ne_eqb _ _ c.if-at-eq0.false)
