-- The sections of a whole table, one after another; where they lie in sound words; and what any words are found to be
-- (document 01, "The formula table").
use Rattle.std.specs.Prelude.{ℕ, ◌+◌, ◌-◌, ◌*◌, List, length, take, drop, Result, Ok, Err}
use Rattle.sections.specs.declared.Cursor.{Cursor}
use Rattle.table.specs.declared.Layout.{Layout}
use Rattle.sections.specs.Sections.{and_then, start, variables_at, reads_at, rows_at, strategy_at, end_at}
use Rattle.paper.specs.declared.Refusal.{Refusal}

-- the part of the words from a position on; the reads of section 2, which stand before the cursor behind it
abbrev pub part_at : List ℕ → Cursor → List ℕ
part_at words c = drop c.at words

abbrev pub reads_of : List ℕ → Cursor → List ℕ
reads_of words c = take c.reads (drop (c.at - c.reads) words)

-- the sections one after another, each wholly checked before the next
unfoldable pub sections : List ℕ → Result Cursor Refusal
sections words =
    and_then (variables_at words start)
    (λ a. and_then (reads_at (part_at words a) a)
    (λ b. and_then (rows_at (part_at words b) (reads_of words b) b)
    (λ c. and_then (strategy_at (part_at words c) c)
    (λ d. end_at (length words) d))))

-- The counts V, R, N, S of sound words, and where the reads, the rows and the strategy begin, each after its count.
abbrev pub layout : ℕ → ℕ → ℕ → ℕ → Layout
layout #V #R #N #S = record {
  variables = #V;
  reads = #R;
  rows = #N;
  chosen = #S;
  reads_at = #V + 2;
  rows_at = #V + #R + 3;
  chosen_at = #V + #R + 4 * #N + 4;
}

-- the parts of words laid out so: names, reads, rows, strategy
module _ (words : List ℕ) (l : Layout) where
  abbrev pub names_in : List ℕ
  names_in = take l.variables (drop 1 words)

  abbrev pub reads_in : List ℕ
  reads_in = take l.reads (drop l.reads_at words)

  abbrev pub rows_in : List ℕ
  rows_in = drop l.rows_at words

  abbrev pub chosen_in : List ℕ
  chosen_in = take l.chosen (drop l.chosen_at words)

abbrev pub as_checked : Result Cursor Refusal → Result Layout Refusal
as_checked (Err r) = Err r
as_checked (Ok c) = Ok (layout c.variables c.reads c.rows c.count)

-- what the words are found to be
unfoldable pub checked : List ℕ → Result Layout Refusal
checked words = as_checked (sections words)
