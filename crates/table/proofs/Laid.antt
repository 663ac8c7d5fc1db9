-- Words that are laid out as document 01 says: each section has its count, as many entries as that says, and what is asked of them.
use Prim.Native.Nat.{ℕ, ◌+◌, ◌*◌, ◌<◌, ◌≤◌}
use mathlib.Core.Bool.{true, ◌||◌}
use mathlib.Core.List.{List}
use mathlib.Core.Path.{◌≡◌}
use lib.ListN.{length, get_or, drop}
use Rattle.paper.specs.Limits.{most_chosen, most_reads, most_rows, most_variables}
use Rattle.table.specs.declared.Layout.{Layout}
use Rattle.entries.specs.First.{first}
use Rattle.rows.specs.Rows.{taken_before, keeps_rules, is_deep}
use Rattle.entries.specs.Entries.{falls, beyond}
use Rattle.table.specs.Table.{layout, reads_in, rows_in}

-- What document 01 asks of each section of words that are laid out so.
module _ (words : List ℕ) (l : Layout) where
  pub record Names : Type 0 where
    pub some : 1 ≤ l.variables
    pub most : l.variables ≤ most_variables
    pub counted : get_or words 0 0 ≡ l.variables
    pub ascend : first (falls (drop 1 words)) l.variables ≡ l.variables

  pub record Reads : Type 0 where
    pub most : l.reads ≤ most_reads
    pub counted : get_or words (l.variables + 1) 0 ≡ l.reads
    pub below : first (beyond (drop l.reads_at words) l.variables) l.reads ≡ l.reads

  pub record Rows : Type 0 where
    pub some : 1 ≤ l.rows
    pub most : l.rows ≤ most_rows
    pub counted : get_or words (l.variables + l.reads + 2) 0 ≡ l.rows
    pub keep : (i : ℕ) → i < l.rows → keeps_rules (rows_in words l) (reads_in words l) l.variables l.rows i ≡ true
    pub taken : taken_before (rows_in words l) l.rows ≡ l.reads
    pub shallow : first (is_deep (rows_in words l)) l.rows ≡ l.rows

  pub record Chosen : Type 0 where
    pub most : l.chosen ≤ most_chosen
    pub counted : get_or words (l.variables + l.reads + 4 * l.rows + 3) 0 ≡ l.chosen
    pub fit : first (λ k. beyond (drop l.chosen_at words) l.rows k || falls (drop l.chosen_at words) k) l.chosen ≡ l.chosen

  pub record Laid : Type 0 where
    pub of_counts : l ≡ layout l.variables l.reads l.rows l.chosen
    pub names : Names
    pub reads : Reads
    pub rows : Rows
    pub chosen : Chosen
    pub all_words : length words ≡ l.variables + l.reads + 4 * l.rows + l.chosen + 4
