-- The limits of document 01 ("The formula table"; refusals 2, 8 and 14), those that code has in capitals under the same names.
use Rattle.std.specs.Prelude.{ℕ}

-- V, R, N and S: variables, reads, rows and entries of the strategy section
abbrev pub most_variables : ℕ
most_variables = 1024

abbrev pub most_reads : ℕ
most_reads = 8192

abbrev pub most_rows : ℕ
most_rows = 4096

abbrev pub most_chosen : ℕ
most_chosen = 4096

-- words of a table: what the other limits come to
abbrev pub most_words : ℕ
most_words = 29700

-- levels of nested rows, stars included
abbrev pub most_depth : ℕ
most_depth = 64

-- transitions of an accepted table
abbrev pub most_transitions : ℕ
most_transitions = 65535

-- bytes that the lister reads
abbrev pub most_bytes : ℕ
most_bytes = 65536

-- Candidates of a table, since each takes two rows and two or more of them stand below a join; and how many words the arrays over
-- chosen candidates have, one more.
abbrev pub most_candidates : ℕ
most_candidates = 2047

abbrev pub slots : ℕ
slots = 2048
