-- The test is that of the definition.
use borrow.Author.Rules.{rules}
use Rattle.entries.proofs.First.{first_by}
use Rattle.strategy.proofs.choice.first_stranger.Goals as goal

pub returns : goal.returns
returns c = first_by _ c.first_decided.ensures (λ k b h a. search rules)
