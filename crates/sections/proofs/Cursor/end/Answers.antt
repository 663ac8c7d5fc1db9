-- Each return is the definition with the test that led there put in.
use borrow.Author.Tests.{lt-ltb, le-ltb}
use Rattle.sections.specs.Sections.{end_at}
use Rattle.sections.proofs.Cursor.end.Goals as goal

pub returns-then-at-present : goal.returns-then-at-present
unfolding end_at
returns-then-at-present c = simp (c.refusal_for.ensures, lt-ltb _ _ c.if-at-present.true)

pub returns : goal.returns
unfolding end_at
returns c = simp (le-ltb _ _ c.if-at-present.false)
