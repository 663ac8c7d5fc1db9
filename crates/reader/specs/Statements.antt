-- What is promised of a table reader's places beyond the promises of its functions (proofs/Sound.antt).
use Rattle.std.specs.Prelude.{ℕ, ◌<◌, ◌≤◌, List, ◌≡◌, Some, None, Ok}
use Rattle.table.specs.declared.Layout.{Layout}
use Rattle.rows.specs.Rows.{end_of}
use Rattle.table.specs.Table.{checked, rows_in}
use Rattle.reader.specs.declared.Row.{Row}
use Rattle.reader.specs.Reading.{row_of, row_at, past_at}

-- In words laid out so, a label from 0 to N-1 has its row, with the words that the checks read, no other label has one, and a
-- row's subtree is passed at the row's end.
pub record ReadsRows (words : List ℕ) (l : Layout) : Type 0 where
  pub here : (i : ℕ) → i < l.rows → row_at words i ≡ Some (row_of (rows_in words l) i)
  pub absent : (i : ℕ) → l.rows ≤ i → row_at words i ≡ None
  pub past : (i : ℕ) → i < l.rows → past_at words i ≡ end_of (rows_in words l) i

-- so it is in all words that pass document 01's checks
abbrev pub SoundRows : Type 0
SoundRows = (words : List ℕ) (l : Layout) → checked words ≡ Ok l → ReadsRows words l

-- in any words, what is behind a row's subtree is behind the row: who steps so comes to an end
abbrev pub PastRises : Type 0
PastRises = (words : List ℕ) (i : ℕ) (row : Row) → row_at words i ≡ Some row → i < past_at words i
