-- What a table reader finds in any words (document 01, "The formula table": the sections and their counts, rows of four
-- words, end). Sections 1 to 3 are asked for their counts and their presence alone (refusals 1 and 2), so that a browser can
-- show the rows of words that break other rules.
use Rattle.std.specs.Prelude.{ℕ, ◌+◌, ◌-◌, ◌*◌, cond, List, ltb, drop, Option, Some, None, Result, Ok, Err}
use Rattle.std.specs.Borrow.{Bor}
use Rattle.paper.specs.Limits.{most_reads, most_rows, most_variables}
use Rattle.paper.specs.Formula.{ℓ}
use Rattle.sections.specs.declared.Cursor.{Cursor}
use Rattle.rows.specs.Rows.{kind_of, arg_of, end_of, from_of}
use Rattle.sections.specs.Sections.{and_then, start, open_at}
use Rattle.table.specs.Table.{part_at}
use Rattle.reader.specs.declared.Row.{Row}
use Rattle.reader.specs.declared.Reader.{Reader}
use Rattle.paper.specs.declared.Refusal.{Refusal}

-- 1 to 1,024 variables, 0 to 8,192 reads and 1 to 4,096 rows of four words: the cursor behind them
unfoldable pub behind_rows : List ℕ → Result Cursor Refusal
behind_rows words =
    and_then (open_at words start 1 most_variables 1)
    (λ a. and_then (open_at (part_at words a) a 0 most_reads 1)
    (λ b. open_at (part_at words b) b 1 most_rows 4))

-- the rows, from the first one's kind word on, stand before the cursor behind them
abbrev pub rows_before : List ℕ → Cursor → List ℕ
rows_before words c = drop (c.at - 4 * c.count) words

-- row i: its label, and its words kind, arg, end, from
abbrev pub row_of : List ℕ → ℕ → Row
row_of rows i = record { label = ℓ i; kind = kind_of rows i; arg = arg_of rows i; end = ℓ (end_of rows i); from = from_of rows i }

-- a label from 0 to N-1 has its row, and any other none
abbrev pub found_in : List ℕ → ℕ → Result Cursor Refusal → Option Row
found_in words i (Err r) = None
found_in words i (Ok c) = cond (ltb i c.count) (Some (row_of (rows_before words c) i)) None

-- the row with label i
unfoldable pub row_at : List ℕ → ℕ → Option Row
row_at words i = found_in words i (behind_rows words)

-- The label behind row i's subtree, "one more than the last label": its end. An end that is not behind the row is no end of a
-- subtree, and the next label is taken. Where there is no row, the label stays.
abbrev pub past_row : ℕ → Option Row → ℕ
past_row i None = i
past_row i (Some row) = cond (ltb i row.end.0) row.end.0 (i + 1)

unfoldable pub past_at : List ℕ → ℕ → ℕ
past_at words i = past_row i (row_at words i)

-- the row behind row i's subtree
abbrev pub row_past : List ℕ → ℕ → Option Row
row_past words i = row_at words (past_at words i)

-- the reader of lent words at a label, and the one behind the subtree of the row where a reader stands
abbrev pub reader_at : Bor (List ℕ) → ℕ → Reader
reader_at words i = record { words = words; at = i }

abbrev pub reader_past : Reader → Reader
reader_past r = reader_at r.words (past_at r.words.now r.at)
