-- Each return is the definition with the tests that led there put in; a count within its limit keeps every sum small.
use borrow.Author.Tests.{eq-eqb, ne_eqb, lt-ltb, le-ltb}
use Rattle.sections.specs.Sections.{open_at}
use Rattle.sections.proofs.Cursor.open.Goals as goal

pub returns-then-present-eq0 : goal.returns-then-present-eq0
unfolding open_at
returns-then-present-eq0 c = simp (c.refusal_for.ensures, eq-eqb _ _ c.if-present-eq0.true)

pub returns-then-count-low : goal.returns-then-count-low
unfolding open_at
returns-then-count-low c =
    simp (c.refusal_for-then-count-low.ensures, ne_eqb _ _ c.if-present-eq0.false, ← c.from-count.ensures, lt-ltb _ _ c.if-count-low.true)

pub returns-then-high-count : goal.returns-then-high-count
unfolding open_at
returns-then-high-count c =
    let low = le-ltb _ _ c.if-count-low.false in
    simp (c.refusal_for-then-high-count.ensures, ne_eqb _ _ c.if-present-eq0.false, ← c.from-count.ensures, low, lt-ltb _ _ c.if-high-count.true)

pub returns-then-present-words : goal.returns-then-present-words
unfolding open_at
returns-then-present-words c =
    let low = le-ltb _ _ c.if-count-low.false in
    let high = le-ltb _ _ c.if-high-count.false in
    simp (c.refusal_for-then-present-words.ensures, ne_eqb _ _ c.if-present-eq0.false, ← c.from-count.ensures, low, high, lt-ltb _ _ c.if-present-words.true)

pub returns : goal.returns
unfolding open_at
returns c =
    let low = le-ltb _ _ c.if-count-low.false in
    let high = le-ltb _ _ c.if-high-count.false in
    simp (ne_eqb _ _ c.if-present-eq0.false, ← c.from-count.ensures, low, high, le-ltb _ _ c.if-present-words.false)
