-- `mark_kept` clears a byte for each label and sets those of the labels that transition k keeps, all of which lie below n.
use Rattle.transitions.proofs.KeptBelow.{kept-marked}
use Rattle.transitions.proofs.kept.mark_kept.Goals as goal

pub returns : goal.returns
returns c = kept-marked c.args.f.now.formula.shaped c.requires c.clear.ensures c.keep.ensures
