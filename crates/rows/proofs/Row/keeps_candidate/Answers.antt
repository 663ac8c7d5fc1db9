-- A candidate keeps its rule: each test is one of the rule's.
use native.Mathlib.Omega.{arith}
use borrow.Author.Tests.{lt-ltb, le-ltb}
use Rattle.rows.specs.Rows.{candidate_rule}
use Rattle.rows.proofs.Row.keeps_candidate.Goals as goal

pub returns-then-from-variables : goal.returns-then-from-variables
unfolding candidate_rule
returns-then-from-variables c =
    let below = lt-ltb c.from.result c.args.variables (omega arith) in
    simp (← c.arg_of.ensures, ← c.from.ensures, below) c.guard_meets.ensures

pub returns-else-from-variables : goal.returns-else-from-variables
unfolding candidate_rule
returns-else-from-variables c =
    let beyond = le-ltb c.from.result c.args.variables (omega arith) in
    simp (← c.arg_of.ensures, ← c.from.ensures, beyond)
