-- What is known of sound words, all in one place, for the proofs of the layers above.
use Rattle.std.specs.Prelude.{ℕ, suc, ◌+◌, ◌*◌, ◌<◌, ◌≤◌, true, List, ◌≡◌, length, get_or, Ok}
use Rattle.paper.specs.Limits.{most_chosen, most_depth, most_reads, most_rows, most_variables, most_words}
use Rattle.paper.specs.Formula.{labels, WellFormed}
use Rattle.table.specs.declared.Layout.{Layout}
use Rattle.rows.specs.Rows.{keeps_rules}
use Rattle.rows.specs.Inside.Looks.{Nested}
use Rattle.table.specs.Table.{layout, names_in, reads_in, rows_in, chosen_in, checked}
use Rattle.rows.specs.Inside.Walk.{Shaped}
use Rattle.written.specs.Written.{written, Within, taken_reads, size, depth, labels_on}
use Rattle.written.specs.Tables.{formula_in, table_in, layout_of}

-- What sound words hold: the table that they write, by its bounds and by its words; and what a walk over its rows, its reads
-- and its strategy goes by.
pub record Understood (words : List ℕ) (l : Layout) : Type 0 where
  pub within : Within (table_in words l)
  pub words_are : words ≡ written (table_in words l)
  pub laid_out : l ≡ layout_of (table_in words l)
  -- the counts and positions
  pub of_counts : l ≡ layout l.variables l.reads l.rows l.chosen
  pub all_words : length words ≡ l.chosen_at + l.chosen
  pub at_most_words : length words ≤ most_words
  pub some_variables : 1 ≤ l.variables
  pub at_most_variables : l.variables ≤ most_variables
  pub at_most_reads : l.reads ≤ most_reads
  pub some_rows : 1 ≤ l.rows
  pub at_most_rows : l.rows ≤ most_rows
  pub at_most_chosen : l.chosen ≤ most_chosen
  -- the parts: they are all there
  pub names_there : length (names_in words l) ≡ l.variables
  pub reads_there : length (reads_in words l) ≡ l.reads
  pub rows_there : 4 * l.rows ≤ length (rows_in words l)
  pub chosen_there : length (chosen_in words l) ≡ l.chosen
  -- their contents
  pub reads_below : (k : ℕ) → k < l.reads → get_or (reads_in words l) k 0 < l.variables
  pub rules_kept : (i : ℕ) → i < l.rows → keeps_rules (rows_in words l) (reads_in words l) l.variables l.rows i ≡ true
  pub nested : Nested (rows_in words l) l.rows
  pub shaped : Shaped (rows_in words l) l.rows
  pub chosen_ascend : (k : ℕ) → suc k < l.chosen → get_or (chosen_in words l) k 0 < get_or (chosen_in words l) (suc k) 0
  pub chosen_below : (k : ℕ) → k < l.chosen → get_or (chosen_in words l) k 0 < l.rows
  -- the formula
  pub size_is : size (formula_in words l) ≡ l.rows
  pub shallow : depth (formula_in words l) ≤ most_depth
  pub labels_are : labels (formula_in words l) ≡ labels_on 0 l.rows
  pub reads_are : taken_reads (formula_in words l) ≡ reads_in words l
  pub well_formed : WellFormed l.variables (formula_in words l)

-- all words that pass the checks are so
abbrev pub SoundUnderstood : List ℕ → Layout → Type 0
SoundUnderstood words l = checked words ≡ Ok l → Understood words l
