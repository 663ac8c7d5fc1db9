-- The first two lines, or those of the transitions that come next.
use borrow.Author.Rules.{rules}
use Rattle.lister.proofs.PartsPut.{head-part, lines-few, lines-part}
use Rattle.lister.proofs.parts.put_accepted_part.Goals as goal

pub returns-then-next-eq0 : goal.returns-then-next-eq0
returns-then-next-eq0 c = head-part c.args.listed.now.ordered c.if-next-eq0.true c.put_head.ensures

pub overflow_add-result : goal.overflow_add-result
overflow_add-result c = let few = lines-few c.args.listed.now.ordered c.requires.0 c.put_lines.ensures in search rules

pub returns : goal.returns
returns c = lines-part c.args.listed.now.ordered c.if-next-eq0.false c.put_lines.ensures
