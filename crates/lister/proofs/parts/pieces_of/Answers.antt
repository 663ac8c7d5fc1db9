-- An accepted table has few transitions.
use borrow.Author.Rules.{rules}
use Rattle.answers.proofs.Accepted.{few-transitions}
use Rattle.lister.proofs.parts.pieces_of.Goals as goal

pub overflow_add-result : goal.overflow_add-result
overflow_add-result c = let few = few-transitions _ _ c.in-Ok.listed.basis.now.table.judged_so in search rules
