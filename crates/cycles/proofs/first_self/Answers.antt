-- An index is asked whether it is before itself.
use borrow.Author.Rules.{rules}
use Rattle.entries.proofs.First.{first_by}
use Rattle.cycles.proofs.Steps.{selfless}
use Rattle.cycles.proofs.first_self.Goals as goal

pub returns : goal.returns
returns c = selfless _ _ (first_by _ c.first_decided.ensures (λ k b h a. search rules))
