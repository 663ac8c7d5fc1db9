-- The expressions under a row have their words.
use Rattle.rows.proofs.Rules.{number_of}
use Rattle.rows.proofs.Walks.{along_under, along-stand}
use Rattle.rows.proofs.walk.Formula.children.Goals as goal

pub invariant_of-result : goal.invariant_of-result
invariant_of-result c =
    record {
      there =
          rw (c.expressions_of.ensures, number_of c.first_of.ensures)
          (along-stand _ (along_under (record { shaped = c.args.self.now.shaped; here = c.requires })));
    }
