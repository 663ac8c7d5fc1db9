-- What looking at a row, and walking down the rows, asks of the caller.
use Rattle.std.specs.Prelude.{ℕ, ◌*◌, ◌<◌, ◌≤◌, List, length}
use Rattle.paper.specs.Limits.{most_rows}
use Rattle.rows.specs.Rows.{end_of}

-- What a look at row i asks: there are words for #N rows, as many as a table may have, and i is one of them.
pub record InRows (rows : List ℕ) (#N i : ℕ) : Type 0 where
  pub room : 4 * #N ≤ length rows
  pub few : #N ≤ most_rows
  pub here : i < #N

-- What a walk down the rows asks: a subtree ends after its row and within #N, and subtrees lie within one another or apart.
pub record Nested (rows : List ℕ) (#N : ℕ) : Type 0 where
  pub room : 4 * #N ≤ length rows
  pub few : #N ≤ most_rows
  pub rises : (i : ℕ) → i < #N → i < end_of rows i
  pub within : (i : ℕ) → i < #N → end_of rows i ≤ #N
  pub nested : (i j : ℕ) → i < j → j < end_of rows i → end_of rows i ≤ #N → end_of rows j ≤ end_of rows i
