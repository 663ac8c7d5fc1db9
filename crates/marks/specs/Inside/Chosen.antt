-- The chosen labels as marks: what is asked of the marks of a table, and what they are byte by byte.
use Rattle.std.specs.Prelude.{ℕ, ◌<◌, ◌≡◌, List, length, get_or}
use Rattle.paper.specs.Limits.{most_rows}
use Rattle.paper.specs.declared.Label.{Label}
use Rattle.paper.specs.Formula.{ℓ, has}
use Rattle.marks.specs.Marks.{is_marked}

-- the marks are those of the chosen labels
pub record Marked (A : List Label) (marks : List ℕ) : Type 0 where
  pub size : length marks ≡ most_rows
  pub marks_are : (l : ℕ) → l < most_rows → is_marked marks l ≡ has A (ℓ l)

-- each word of a list is below a limit
abbrev pub AllBelow : ℕ → List ℕ → Type 0
AllBelow limit ws = (k : ℕ) → k < length ws → get_or ws k 0 < limit

-- what the marks of chosen labels are, byte by byte: 1 for a label that is marked, else 0
pub record MarkedExactly (A : List Label) (marks : List ℕ) : Type 0 where
  pub marked : Marked A marks
  pub bits : AllBelow 2 marks
