-- The labels of a list that are kept, in their order, where a byte marks each label that is (document 01, "Assignments of
-- transition k").
use Rattle.std.specs.Prelude.{ℕ, ◌<◌, ◌≤◌, List, length, get_or, take}
use Rattle.paper.specs.Lists.{those}
use Rattle.marks.specs.Marks.{is_marked}

abbrev pub kept_of : List ℕ → List ℕ → List ℕ
kept_of kept labels = those (is_marked kept) labels

-- the first `count` labels of an order have a byte each, and there is room for those of them that are kept
pub record Fillable (order : List ℕ) (count : ℕ) (kept out : List ℕ) : Type 0 where
  pub there : count ≤ length order
  pub below : (i : ℕ) → i < count → get_or order i 0 < length kept
  pub room : length (kept_of kept (take count order)) ≤ length out
