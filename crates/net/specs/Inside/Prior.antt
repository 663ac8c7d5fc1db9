-- "Before" in terms of rows, as code asks for it: what the stars around a candidate read, and whether two rows share a
-- branch (document 01, "Before"). The chosen labels are those of the strategy section, ascending; i and j count them.
use Rattle.std.specs.Prelude.{ℕ, ◌+◌, Bool, ◌&&◌, ◌||◌, List, eqb, get_or, take, drop}
use Rattle.paper.specs.Lists.{any_of, up_to, last_of}
use Rattle.rows.specs.Inside.Tree.{is_under, is_guarded}
use Rattle.rows.specs.Rows.{kind_of, arg_of, from_of}

module _ (rows : List ℕ) where
  -- the last row that is over both i and j, which are two
  unfoldable pub over_both : ℕ → ℕ → ℕ
  over_both i j = last_of (λ a. is_under rows a i && is_under rows a j) 0 i

  -- two candidates share a branch: they are one, or the last row over both is a conjunction
  unfoldable pub share_branch_in : ℕ → ℕ → Bool
  share_branch_in i j = eqb i j || eqb (kind_of rows (over_both i j)) 3

  module _ (reads : List ℕ) where
    -- the star in row s reads v
    unfoldable pub star_reads : ℕ → ℕ → Bool
    star_reads s v = any_of (eqb v) (take (arg_of rows s) (drop (from_of rows s) reads))

    -- the star of a guard around row i reads v
    unfoldable pub around : ℕ → ℕ → Bool
    around i v = any_of (λ a. is_guarded rows a i && star_reads (a + 1) v) (up_to i)

    -- v is frozen at the candidate in row i: its own star reads it, or that of a guard around it
    unfoldable pub is_frozen : ℕ → ℕ → Bool
    is_frozen i v = star_reads (i + 1) v || around i v

-- the variable of the k-th chosen label
abbrev pub variable_of : List ℕ → List ℕ → ℕ → ℕ
variable_of rows chosen k = arg_of rows (get_or chosen k 0)

-- the i-th chosen label comes before the j-th
unfoldable pub prior : List ℕ → List ℕ → List ℕ → ℕ → ℕ → Bool
prior rows reads chosen i j =
    is_frozen rows reads (get_or chosen j 0) (variable_of rows chosen i) && share_branch_in rows (get_or chosen i 0) (get_or chosen j 0)
