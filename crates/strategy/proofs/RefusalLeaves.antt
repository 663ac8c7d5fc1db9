-- A refusal writes nothing: for each public function that lends and can refuse, whatever refusal its contract allows, every lent word
-- is left as it was.
use Prim.Native.Nat.{ℕ}
use mathlib.Core.Path.{◌≡◌, subst}
use mathlib.Core.List.{List}
use Rattle.paper.specs.Outcome.{RefusalLeaves}
use Rattle.table.specs.declared.Layout.{Layout}
use Rattle.paper.specs.Refusals.{IsRefusal}
use Rattle.strategy.specs.Judge.{left_by, order_in, order_left}
use Rattle.strategy.proofs as strategy
use Rattle.strategy.proofs.checks as checks
use Rattle.std.specs.Prelude.{Result, Ok, Err}
use Rattle.paper.specs.declared.Refusal.{Refusal}
use Rattle.strategy.specs.declared.Accepted.{Accepted}

pub as_it_was : (j : Result Accepted Refusal) (order_of : Layout → List ℕ) {lent left : List ℕ} {r : Result Accepted Refusal}
    → r ≡ j → left ≡ left_by j order_of lent → IsRefusal r → left ≡ lent
as_it_was (Err x) order_of e so h = so
as_it_was (Ok a) order_of e so h = absurd (subst IsRefusal e h)

pub judge-into :
    RefusalLeaves strategy.judge_into.Kinds.ps strategy.judge_into.Kinds.r (λ κs. IsRefusal) (λ κs a. (tt, (a.1.0.now, tt)))
    strategy.judge_into.Reads.Pre strategy.judge_into.Reads.Post
unfolding order_left
judge-into κs a pre x v p h = λ i. (tt, (as_it_was _ (order_in a.0.now) p.answered p.left_so h i, tt))

pub judge-parts :
    RefusalLeaves checks.judge_parts.Kinds.ps checks.judge_parts.Kinds.r (λ κs. IsRefusal) (λ κs a. (tt, (tt, (tt, (tt, (a.1.1.1.1.0.now, tt))))))
    checks.judge_parts.Reads.Pre checks.judge_parts.Reads.Post
judge-parts κs a pre x v p h = λ i. (tt, (tt, (tt, (tt, (as_it_was _ _ p.answered p.left_so h i, tt)))))
