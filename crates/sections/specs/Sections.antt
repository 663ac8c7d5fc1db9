-- The sections of a table, checked in order (document 01, "The formula table" and "Refusal numbers, in the order of checks":
-- 1, 2, 4, 5, 6, 7, 8, 9, 3). A section is the part of the words from its count word on; a cursor has the position of that
-- word in the whole table and what the sections before it gave.
use Rattle.std.specs.Prelude.{ℕ, ◌+◌, ◌-◌, ◌*◌, Bool, cond, ◌||◌, List, length, get_or, drop, ltb, eqb, Result, Ok, Err}
use Rattle.paper.specs.declared.refusals.Fault.TheVariants.{Absent, CountOutOfRange, EntryUnfit, NameNotAbove, ReadBeyond, ReadsLeft, RowBroken, TooDeep}
use Rattle.paper.specs.declared.refusals.Fault.TheVariants.{WordsFollow}
use Rattle.paper.specs.Refusals.{refusal}
use Rattle.paper.specs.declared.refusals.Fault.{Fault}
use Rattle.paper.specs.Limits.{most_chosen, most_reads, most_rows, most_variables}
use Rattle.sections.specs.declared.Cursor.{Cursor}
use Rattle.entries.specs.First.{first}
use Rattle.entries.specs.Entries.{falls, beyond}
use Rattle.rows.specs.Rows.{breaks_rules, taken_before, is_deep}
use Rattle.paper.specs.declared.Refusal.{Refusal}

abbrev pub halt : Fault → ℕ → Result Cursor Refusal
halt fault place = Err (refusal fault place)

-- first one step, then the other from where it left off; a refusal is the answer at once
abbrev pub and_then : Result Cursor Refusal → (Cursor → Result Cursor Refusal) → Result Cursor Refusal
and_then (Err r) next = Err r
and_then (Ok c) next = next c

-- refused at the lowest of n offenders, counted from `base` on, or else what follows
abbrev pub unless : Fault → ℕ → (ℕ → Bool) → ℕ → Result Cursor Refusal → Result Cursor Refusal
unless fault base bad n next = cond (ltb (first bad n) n) (halt fault (base + first bad n)) next

abbrev pub start : Cursor
start = record { at = 0; count = 0; variables = 0; reads = 0; rows = 0 }

-- A section's count, which must be there (1) and from low to high (2), and its presence (1): so many entries of so many
-- words each. The cursor stands at the count word; words present are those before the part and those in it.
unfoldable pub open_at : List ℕ → Cursor → ℕ → ℕ → ℕ → Result Cursor Refusal
open_at part c low high width =
    cond (eqb (length part) 0) (halt Absent (c.at + length part))
    (cond (ltb (get_or part 0 0) low || ltb high (get_or part 0 0)) (halt CountOutOfRange c.at)
    (cond (ltb (length part - 1) (get_or part 0 0 * width)) (halt Absent (c.at + length part))
    (Ok (record {
      at = c.at + 1 + get_or part 0 0 * width;
      count = get_or part 0 0;
      variables = c.variables;
      reads = c.reads;
      rows = c.rows;
    }))))

-- Section 1: 1 to 1,024 names, strictly ascending (4, at the position of the word)
unfoldable pub variables_at : List ℕ → Cursor → Result Cursor Refusal
variables_at part c =
    and_then (open_at part c 1 most_variables 1)
    (λ d. unless NameNotAbove (c.at + 1) (falls (drop 1 part)) d.count
    (Ok (record { at = d.at; count = d.count; variables = d.count; reads = d.reads; rows = d.rows })))

-- Section 2: 0 to 8,192 reads, each below V (5, at the position of the word)
unfoldable pub reads_at : List ℕ → Cursor → Result Cursor Refusal
reads_at part c =
    and_then (open_at part c 0 most_reads 1)
    (λ d. unless ReadBeyond (c.at + 1) (beyond (drop 1 part) c.variables) d.count
    (Ok (record { at = d.at; count = d.count; variables = d.variables; reads = d.count; rows = d.rows })))

-- Section 3: 1 to 4,096 rows of four words that keep their rules (6, at the lowest label), take all reads (7, at the reads
-- taken) and are no deeper than 64 (8, at the lowest label)
unfoldable pub rows_at : List ℕ → List ℕ → Cursor → Result Cursor Refusal
rows_at part reads c =
    and_then (open_at part c 1 most_rows 4)
    (λ d. unless RowBroken 0 (breaks_rules (drop 1 part) reads c.variables d.count) d.count
    (cond (ltb (taken_before (drop 1 part) d.count) c.reads) (halt ReadsLeft (taken_before (drop 1 part) d.count))
    (unless TooDeep 0 (is_deep (drop 1 part)) d.count
    (Ok (record { at = d.at; count = d.count; variables = d.variables; reads = d.reads; rows = d.count })))))

-- Section 4: 0 to 4,096 labels below N, strictly ascending (9, at the index in the section)
unfoldable pub strategy_at : List ℕ → Cursor → Result Cursor Refusal
strategy_at part c =
    and_then (open_at part c 0 most_chosen 1)
    (λ d. unless EntryUnfit 0 (λ k. beyond (drop 1 part) c.rows k || falls (drop 1 part) k) d.count (Ok d))

-- Nothing follows section 4 (3, at the position of the first word after it)
unfoldable pub end_at : ℕ → Cursor → Result Cursor Refusal
end_at present c = cond (ltb c.at present) (halt WordsFollow c.at) (Ok c)
