-- Which rows lie under which: what the layers above ask of the rows of one tree.
use Rattle.std.specs.Prelude.{ℕ, ◌+◌, Bool, cond, ◌&&◌, List, ltb, leb}
use Rattle.paper.specs.Lists.{any_of, up_to, last_of}
use Rattle.rows.specs.Rows.{kind_of, end_of}

module _ (rows : List ℕ) where
  -- row i lies in the subtree of row a
  abbrev pub is_under : ℕ → ℕ → Bool
  is_under a i = leb a i && ltb i (end_of rows a)

  -- row a is an exists or an IF, and row i lies under it, past its star
  abbrev pub is_guarded : ℕ → ℕ → Bool
  is_guarded a i = ltb 4 (kind_of rows a) && (ltb (a + 1) i && ltb i (end_of rows a))

  -- the row right over row i, which is not row 0
  unfoldable pub parent_of : ℕ → ℕ
  parent_of i = last_of (λ a. is_under a i) 0 i

  -- the star of the innermost guard around row i, or 0
  unfoldable pub guard_of : ℕ → ℕ
  guard_of i = cond (any_of (λ a. is_guarded a i) (up_to i)) (last_of (λ a. is_guarded a i) 0 i + 1) 0
