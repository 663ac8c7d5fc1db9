-- The lowest index on a cycle of "before", over the indices of the chosen labels (document 01, refusal 13). `prior` is "before"
-- in terms of rows.
use Rattle.std.specs.Prelude.{ℕ, Bool, List, length}
use Rattle.paper.specs.Order.{on_cycle}
use Rattle.entries.specs.First.{first}
use Rattle.paper.specs.Lists.{up_to}
use Rattle.net.specs.Inside.Prior.{prior}

-- index k is on a cycle
unfoldable pub is_on_cycle : List ℕ → List ℕ → List ℕ → ℕ → Bool
is_on_cycle rows reads chosen k = on_cycle (prior rows reads chosen) (up_to (length chosen)) k

-- the lowest index on a cycle, or how many there are
unfoldable pub lowest_on_cycle : List ℕ → List ℕ → List ℕ → ℕ
lowest_on_cycle rows reads chosen = first (is_on_cycle rows reads chosen) (length chosen)
