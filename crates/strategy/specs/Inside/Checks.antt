-- What two checks of the proposal find, 10 and 14, which need the rows and no order.
use Rattle.std.specs.Prelude.{ℕ, Bool, cond, not, List, eqb, ltb, get_or, Result}
use Rattle.paper.specs.declared.refusals.Fault.TheVariants.{TooMany}
use Rattle.paper.specs.Limits.{most_transitions}
use Rattle.table.specs.declared.Layout.{Layout}
use Rattle.rows.specs.Rows.{kind_of}
use Rattle.strategy.specs.Verdict.{accepted_with, refused_at}
use Rattle.paper.specs.declared.Refusal.{Refusal}
use Rattle.strategy.specs.declared.Accepted.{Accepted}

-- 10: the k-th chosen label is no candidate
abbrev pub is_stranger : List ℕ → List ℕ → ℕ → Bool
is_stranger rows chosen k = not (eqb (kind_of rows (get_or chosen k 0)) 2)

-- 14, or an acceptance: the answer by a number of transitions
unfoldable pub counted_as : Layout → ℕ → Result Accepted Refusal
counted_as l n = cond (ltb most_transitions n) (refused_at TooMany 0) (accepted_with l n)
