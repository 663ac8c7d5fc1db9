-- By cases on what was found; a label that has a row is small, so that the next one is a number.
use native.Mathlib.Omega.{arith}
use mathlib.Core.Path.{sym, ◌∙◌}
use borrow.Author.Tests.{lt-ltb, le-ltb}
use Rattle.reader.specs.Reading.{past_at}
use Rattle.reader.proofs.Behind.{here-few}
use Rattle.reader.proofs.plain.past_at.Goals as goal

pub returns-in_default : goal.returns-in_default
unfolding past_at
returns-in_default c = simp (← c.row_at.ensures, c.in_default.is)

pub returns-then-label-end : goal.returns-then-label-end
unfolding past_at
returns-then-label-end c = rw (sym c.row_at.ensures ∙ c.in-Some.is, ← c.from-end.ensures) (simp (lt-ltb _ _ c.if-label-end.true))

pub overflow_add-result : goal.overflow_add-result
overflow_add-result c = omega (arith, here-few _ _ _ (sym c.row_at.ensures ∙ c.in-Some.is))

pub returns-else-label-end : goal.returns-else-label-end
unfolding past_at
returns-else-label-end c = rw (sym c.row_at.ensures ∙ c.in-Some.is, ← c.from-end.ensures) (simp (le-ltb _ _ c.if-label-end.false))
