-- Words that break the rules of the sections (document 01, "Refusal numbers, in the order of checks": 1, 2, 4, 5, 9 and 3): each number
-- with its place, and words with two faults at once. proofs/Cases.antt proves that the requests answer so.
use Rattle.std.specs.Prelude.{ℕ, List, [], ◌∷◌, ◌++◌}
use Rattle.demands.specs.Cases.{Case, faulty, row, table}

-- x' in s: its rows, and the words that end with them
abbrev assigns_x : List (List ℕ)
assigns_x = row 2 0 2 0 ∷ row 1 0 2 0 ∷ []

abbrev up_to_rows : List ℕ
up_to_rows = 1 ∷ 7 ∷ 0 ∷ 2 ∷ 2 ∷ 0 ∷ 2 ∷ 0 ∷ 1 ∷ 0 ∷ 2 ∷ 0 ∷ []

-- 1, at the words present; 2, at the count word; a count is asked for its range before its section is asked for its presence
abbrev counts : List Case
counts =
    -- V is 2, and one name is there
    faulty (2 ∷ 7 ∷ []) 1 2
    -- no R
    ∷ faulty (1 ∷ 7 ∷ []) 1 2
    -- R is 2, and one read is there
    ∷ faulty (1 ∷ 7 ∷ 2 ∷ 0 ∷ []) 1 4
    -- no N
    ∷ faulty (1 ∷ 7 ∷ 0 ∷ []) 1 3
    -- N is 2, and the last word of the last row is not there
    ∷ faulty (1 ∷ 7 ∷ 0 ∷ 2 ∷ 2 ∷ 0 ∷ 2 ∷ 0 ∷ 1 ∷ 0 ∷ 2 ∷ []) 1 11
    -- no S
    ∷ faulty up_to_rows 1 12
    -- S is 2, and one label is there
    ∷ faulty (up_to_rows ++ (2 ∷ 0 ∷ [])) 1 14
    -- V from 1 to 1,024
    ∷ faulty (0 ∷ []) 2 0
    ∷ faulty (1024 ∷ []) 1 1
    ∷ faulty (1025 ∷ []) 2 0
    -- R from 0 to 8,192
    ∷ faulty (1 ∷ 7 ∷ 8192 ∷ []) 1 3
    ∷ faulty (1 ∷ 7 ∷ 8193 ∷ []) 2 2
    -- N from 1 to 4,096
    ∷ faulty (1 ∷ 7 ∷ 0 ∷ 0 ∷ []) 2 3
    ∷ faulty (1 ∷ 7 ∷ 0 ∷ 4096 ∷ []) 1 4
    ∷ faulty (1 ∷ 7 ∷ 0 ∷ 4097 ∷ []) 2 3
    -- S from 0 to 4,096
    ∷ faulty (up_to_rows ++ (4096 ∷ [])) 1 13
    ∷ faulty (up_to_rows ++ (4097 ∷ [])) 2 12
    ∷ []

-- presence before contents, and one section wholly before the next
abbrev contents : List Case
contents =
    -- a name that falls, and one that is not there: 1, not 4 at 2
    faulty (3 ∷ 9 ∷ 7 ∷ []) 1 3
    -- a read of no variable, and one that is not there: 1, not 5 at 3
    ∷ faulty (1 ∷ 7 ∷ 2 ∷ 5 ∷ []) 1 4
    -- a row of no kind, and one that is not there: 1, not 6 at 0
    ∷ faulty (1 ∷ 7 ∷ 0 ∷ 2 ∷ 7 ∷ 0 ∷ 1 ∷ 0 ∷ []) 1 8
    -- an entry of no row, and one that is not there: 1, not 9 at 0
    ∷ faulty (up_to_rows ++ (2 ∷ 5 ∷ [])) 1 14
    -- names that do not ascend, and no R: 4, not 1 at 3
    ∷ faulty (2 ∷ 7 ∷ 7 ∷ []) 4 2
    -- a read of no variable, and no N: 5, not 1 at 4
    ∷ faulty (1 ∷ 7 ∷ 1 ∷ 1 ∷ []) 5 3
    -- a row of no kind, and no S: 6, not 1 at 8
    ∷ faulty (1 ∷ 7 ∷ 0 ∷ 1 ∷ 7 ∷ 0 ∷ 1 ∷ 0 ∷ []) 6 0
    -- of three names the second and the third fall: 4 at the second
    ∷ faulty (table (9 ∷ 7 ∷ 5 ∷ []) [] assigns_x (0 ∷ [])) 4 2
    -- names that do not ascend, and a read of no variable: 4
    ∷ faulty (table (7 ∷ 7 ∷ []) (5 ∷ []) assigns_x (0 ∷ [])) 4 2
    -- of three reads the second and the third are of no variable: 5 at the second
    ∷ faulty (table (7 ∷ []) (0 ∷ 1 ∷ 2 ∷ []) assigns_x (0 ∷ [])) 5 4
    -- a read of no variable, and a row of no kind: 5
    ∷ faulty (table (7 ∷ []) (1 ∷ []) (row 7 0 1 0 ∷ []) []) 5 3
    -- 9 at the index of an entry that is N or more, or not above the one before; the lowest of two
    ∷ faulty (table (7 ∷ []) [] assigns_x (0 ∷ 2 ∷ [])) 9 1
    ∷ faulty (table (7 ∷ []) [] assigns_x (0 ∷ 0 ∷ [])) 9 1
    ∷ faulty (table (7 ∷ []) [] assigns_x (1 ∷ 0 ∷ 2 ∷ [])) 9 1
    ∷ faulty (table (7 ∷ []) [] assigns_x (5 ∷ 0 ∷ [])) 9 0
    -- an entry of no row, and a word more: 9, not 3
    ∷ faulty (table (7 ∷ []) [] assigns_x (2 ∷ []) ++ (9 ∷ [])) 9 0
    -- 3 at the first of two words more
    ∷ faulty (table (7 ∷ []) [] assigns_x (0 ∷ []) ++ (9 ∷ 9 ∷ [])) 3 14
    -- a word more, and a chosen label that is no candidate: 3, not 10; entries that fall, and no candidate: 9, not 10
    ∷ faulty (table (7 ∷ []) [] assigns_x (1 ∷ []) ++ (9 ∷ [])) 3 14
    ∷ faulty (table (7 ∷ []) [] assigns_x (1 ∷ 1 ∷ [])) 9 1
    ∷ []

abbrev pub section_cases : List Case
section_cases = counts ++ contents
