-- The net: numbers kept beside the rows so that "before" can be followed without walking from the root. For each of 4,096
-- rows it has the row over it and the star of its innermost guard (0 for none); for each of 2,048 chosen labels the index of the
-- next one with its variable, and for each of 1,024 variables the index of its first chosen label (the number of chosen
-- labels for none).
use Rattle.std.specs.Prelude.{ℕ, ◌+◌, ◌-◌, ◌<◌, ◌≤◌, true, false, cond, ◌&&◌, ◌≡◌, List, eqb, ltb, length, get_or}
use Rattle.paper.specs.Limits.{most_candidates, most_rows, most_variables, slots}
use Rattle.entries.specs.First.{first}
use Rattle.rows.specs.Rows.{kind_of, arg_of, end_of}
use Rattle.rows.specs.Inside.Looks.{Nested}
use Rattle.rows.specs.Inside.Tree.{is_under, parent_of, guard_of}
use Rattle.net.specs.declared.Net.{Net}
use Rattle.net.specs.Inside.Prior.{over_both, share_branch_in}

-- Rows of one tree: nested, the first over all others, with no row under the star of an exists or an IF, and none under a
-- candidate but its star.
pub record Tree (rows : List ℕ) (#N : ℕ) : Type 0 where
  pub nested : Nested rows #N
  pub whole : end_of rows 0 ≡ #N
  pub bare : (i : ℕ) → i < #N → 4 < kind_of rows i → end_of rows (i + 1) ≡ i + 2
  pub ended : (i : ℕ) → i < #N → kind_of rows i ≡ 2 → end_of rows i ≡ i + 2
  pub starred : (i : ℕ) → i < #N → kind_of rows i ≡ 2 → kind_of rows (i + 1) ≡ 1

-- What a net is made of: rows of one tree, and chosen labels of theirs, strictly ascending, each a candidate, with a
-- variable below 1,024.
pub record Chosen (rows chosen : List ℕ) (#N : ℕ) : Type 0 where
  pub tree : Tree rows #N
  pub few : length chosen ≤ most_candidates
  pub below : (k : ℕ) → k < length chosen → get_or chosen k 0 + 1 < #N
  pub ascend : (j k : ℕ) → j < k → k < length chosen → get_or chosen j 0 < get_or chosen k 0
  pub candidates : (k : ℕ) → k < length chosen → kind_of rows (get_or chosen k 0) ≡ 2
  pub variables : (k : ℕ) → k < length chosen → arg_of rows (get_or chosen k 0) < most_variables

-- the words that have the row over each row, and those that have each row's innermost guard
pub record Parents (rows : List ℕ) (#N : ℕ) (words : List ℕ) : Type 0 where
  pub size : length words ≡ most_rows
  pub parents : (i : ℕ) → 0 < i → i < #N → get_or words i 0 ≡ parent_of rows i

pub record Guards (rows : List ℕ) (#N : ℕ) (words : List ℕ) : Type 0 where
  pub size : length words ≡ most_rows
  pub guards : (i : ℕ) → i < #N → get_or words i 0 ≡ guard_of rows i

-- so many words, of which those from #A up to #M are noted: each is f of its position, and the others are as they were
pub record Words (#L : ℕ) (f : ℕ → ℕ) (#A #M : ℕ) (old words : List ℕ) : Type 0 where
  pub size : length words ≡ #L
  pub given : (i : ℕ) → #A ≤ i → i < #M → get_or words i 0 ≡ f i
  pub before : (i : ℕ) → i < #A → get_or words i 0 ≡ get_or old i 0
  pub behind : (i : ℕ) → #M ≤ i → get_or words i 0 ≡ get_or old i 0

module _ (rows chosen : List ℕ) where
  -- the index of the first chosen label of v from index k on, or how many there are
  unfoldable pub first_with : ℕ → ℕ → ℕ
  first_with v k = k + first (λ m. eqb (arg_of rows (get_or chosen (k + m) 0)) v) (length chosen - k)

  -- the index of the next chosen label with the variable of the k-th
  abbrev pub next_with : ℕ → ℕ
  next_with k = first_with (arg_of rows (get_or chosen k 0)) (k + 1)

  -- what is asked of a net: its words for the rows there are, for the chosen labels and for the variables
  pub record IsNet (#N : ℕ) (net : Net) : Type 0 where
    pub parents : Parents rows #N net.parents
    pub guards : Guards rows #N net.guards
    pub nexts : (k : ℕ) → k < length chosen → get_or net.nexts k 0 ≡ next_with k
    pub firsts : (v : ℕ) → v < most_variables → get_or net.firsts v 0 ≡ first_with v 0

  -- The net afterwards, word by word. Row 0 has no row over it, so that word stays; it has no guard, so that word is 0, whether there are
  -- rows or not.
  pub record Noted (#N : ℕ) (old net : Net) : Type 0 where
    pub parents : Words most_rows (parent_of rows) 1 #N old.parents net.parents
    pub guards : Words most_rows (guard_of rows) 0 (1 + (#N - 1)) old.guards net.guards
    pub nexts : Words slots next_with 0 (length chosen) old.nexts net.nexts
    pub firsts : Words most_variables (λ v. first_with v 0) 0 most_variables old.firsts net.firsts

module _ (rows : List ℕ) where
  -- the first row past row a whose subtree holds row j
  unfoldable pub towards : ℕ → ℕ → ℕ
  towards a j = first (λ b. ltb a b && is_under rows b j) j

  -- i itself where the candidates in rows i and j share a branch; else, of the last row over both, the child that holds j where
  -- that comes after i, and the end where it does not
  unfoldable pub clear_to : ℕ → ℕ → ℕ
  clear_to i j =
      cond (share_branch_in rows i j) i
      (cond (ltb i (towards (over_both rows i j) j)) (towards (over_both rows i j) j) (end_of rows (over_both rows i j)))

-- what is known of labels from i on, for the candidate in row j: r is i where they share a branch; else no label from i on
-- below r shares one with j
pub record Cleared (rows : List ℕ) (i j r : ℕ) : Type 0 where
  pub exactly : r ≡ clear_to rows i j
  pub from : i ≤ r
  pub shared : r ≡ i → share_branch_in rows i j ≡ true
  pub apart : (x : ℕ) → i ≤ x → x < r → share_branch_in rows x j ≡ false
