-- Words that are there and pass the search for a fall ascend.
use borrow.Author.Tests.{le-leb, lt-leb}
use Rattle.entries.specs.Entries.{ascend}
use Rattle.entries.proofs.are_ascending.Goals as goal

pub returns-then-words-m : goal.returns-then-words-m
unfolding ascend
returns-then-words-m c = simp (lt-leb _ _ c.if-words-m.true)

pub returns : goal.returns
unfolding ascend
returns c = simp (le-leb _ _ c.if-words-m.false, ← c.first_fall.ensures)
