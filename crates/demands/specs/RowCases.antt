-- Rows that break their rules, and what follows sound rows (document 01, refusals 6, 7 and 8): which row 6 charges, the lowest at fault,
-- the order 6, 7, 8; and a sound table with a row of each kind. proofs/Cases.antt proves that the requests answer so.
use Rattle.std.specs.Prelude.{ℕ, zero, suc, ◌+◌, List, [], ◌∷◌, ◌++◌}
use Rattle.paper.specs.Judgement.{accepted}
use Rattle.paper.specs.Cases.{line}
use Rattle.demands.specs.Cases.{Case, faulty, row, table, listed}

-- rows with a variable and with these reads, refused with 6 at a label
abbrev broken : List ℕ → List (List ℕ) → ℕ → Case
broken reads rows label = faulty (table (7 ∷ []) reads rows []) 6 label

-- a row is charged with its own kind, arg, end and from, and with its own reads
abbrev own_words : List Case
own_words =
    -- kind 7
    broken [] (row 7 0 1 0 ∷ []) 0
    -- FALSE with an arg, under a conjunction: the conjunction is not at fault
    ∷ broken [] (row 3 2 3 0 ∷ row 0 0 2 0 ∷ row 0 1 3 0 ∷ []) 2
    -- two of them: the lower shows
    ∷ broken [] (row 3 2 3 0 ∷ row 0 1 2 0 ∷ row 0 1 3 0 ∷ []) 1
    -- a candidate of variable 1, and V is 1
    ∷ broken [] (row 2 1 2 0 ∷ row 1 0 2 0 ∷ []) 0
    -- a conjunction and a disjunction of no children
    ∷ broken [] (row 3 0 1 0 ∷ []) 0
    ∷ broken [] (row 4 0 1 0 ∷ []) 0
    -- an exists and an IF with an arg
    ∷ broken [] (row 5 1 3 0 ∷ row 1 0 2 0 ∷ row 0 0 3 0 ∷ []) 0
    ∷ broken [] (row 6 1 4 0 ∷ row 1 0 2 0 ∷ row 0 0 3 0 ∷ row 0 0 4 0 ∷ []) 0
    -- a test, and a FALSE, that does not end at the next label; the conjunction around it is met
    ∷ broken [] (row 3 1 3 0 ∷ row 1 0 3 0 ∷ row 0 0 3 0 ∷ []) 1
    ∷ broken [] (row 3 1 3 0 ∷ row 0 0 3 0 ∷ row 0 0 3 0 ∷ []) 1
    -- row 0 does not end at N
    ∷ broken [] (row 0 0 1 0 ∷ row 0 0 2 0 ∷ []) 0
    -- from, of a candidate and of a star, with no read taken before
    ∷ broken [] (row 2 0 2 1 ∷ row 1 0 2 0 ∷ []) 0
    ∷ broken [] (row 2 0 2 0 ∷ row 1 0 2 1 ∷ []) 1
    -- from, with one read taken before: by the star of the candidate before
    ∷ broken (0 ∷ 0 ∷ []) (row 3 2 4 0 ∷ row 2 0 3 0 ∷ row 1 1 3 0 ∷ row 1 1 4 0 ∷ []) 3
    -- a star takes two reads, and there is one; two reads that do not ascend
    ∷ broken (0 ∷ []) (row 2 0 2 0 ∷ row 1 2 2 0 ∷ []) 1
    ∷ broken (0 ∷ 0 ∷ []) (row 2 0 2 0 ∷ row 1 2 2 0 ∷ []) 1
    ∷ []

-- a row is charged with its children as a whole
abbrev children : List Case
children =
    -- the first child must be a star, and is none: of a candidate, an exists, an IF
    broken [] (row 2 0 2 0 ∷ row 0 0 2 0 ∷ []) 0
    ∷ broken [] (row 5 0 3 0 ∷ row 0 0 2 0 ∷ row 0 0 3 0 ∷ []) 0
    ∷ broken [] (row 6 0 4 0 ∷ row 0 0 2 0 ∷ row 0 0 3 0 ∷ row 0 0 4 0 ∷ []) 0
    -- an end does not rise: the parent shows, not the child
    ∷ broken [] (row 3 1 2 0 ∷ row 0 0 1 0 ∷ []) 0
    -- row 2 passes the end of row 1: row 1 shows, though 0 and 2 are met
    ∷ broken [] (row 3 2 4 0 ∷ row 3 1 3 0 ∷ row 3 1 4 0 ∷ row 0 0 4 0 ∷ []) 1
    -- two children asked, and one or three are there
    ∷ broken [] (row 3 2 2 0 ∷ row 0 0 2 0 ∷ []) 0
    ∷ broken [] (row 4 2 4 0 ∷ row 0 0 2 0 ∷ row 0 0 3 0 ∷ row 0 0 4 0 ∷ []) 0
    -- a candidate of two stars, an exists of two expressions, an IF of one
    ∷ broken [] (row 2 0 3 0 ∷ row 1 0 2 0 ∷ row 1 0 3 0 ∷ []) 0
    ∷ broken [] (row 5 0 4 0 ∷ row 1 0 2 0 ∷ row 0 0 3 0 ∷ row 0 0 4 0 ∷ []) 0
    ∷ broken [] (row 6 0 3 0 ∷ row 1 0 2 0 ∷ row 0 0 3 0 ∷ []) 0
    ∷ []

-- m one-child conjunctions that end at n
abbrev conjunctions : ℕ → ℕ → List (List ℕ)
conjunctions zero n = []
conjunctions (suc m) n = row 3 1 n 0 ∷ conjunctions m n

-- m of them round a candidate, whose star has this from
abbrev nested_in : ℕ → ℕ → List (List ℕ)
nested_in m from = conjunctions m (m + 2) ++ (row 2 0 (m + 2) 0 ∷ row 1 0 (m + 2) from ∷ [])

-- 6, then 7 at the reads taken, then 8 at the lowest label deeper than 64, all of them before section 4
abbrev after_rows : List Case
after_rows =
    -- x' in s(x), and a read more: 7 at 1
    faulty (table (7 ∷ []) (0 ∷ 0 ∷ []) (row 2 0 2 0 ∷ row 1 1 2 0 ∷ []) (0 ∷ [])) 7 1
    -- a read more and a wrong from: 6, not 7
    ∷ faulty (table (7 ∷ []) (0 ∷ []) (row 2 0 2 0 ∷ row 1 0 2 1 ∷ []) (0 ∷ [])) 6 1
    -- a read more, and an entry of no row: 7, not 9
    ∷ faulty (table (7 ∷ []) (0 ∷ []) (row 2 0 2 0 ∷ row 1 0 2 0 ∷ []) (5 ∷ [])) 7 0
    -- 63 conjunctions round a candidate: 8 at 64, its star; 64 of them: at 64, the candidate
    ∷ faulty (table (7 ∷ []) [] (nested_in 63 0) (63 ∷ [])) 8 64
    ∷ faulty (table (7 ∷ []) [] (nested_in 64 0) (64 ∷ [])) 8 64
    -- a wrong from below: 6, not 8; a read more: 7, not 8; an entry of no row: 8, not 9
    ∷ faulty (table (7 ∷ []) [] (nested_in 64 1) (64 ∷ [])) 6 65
    ∷ faulty (table (7 ∷ []) (0 ∷ []) (nested_in 63 0) (63 ∷ [])) 7 0
    ∷ faulty (table (7 ∷ []) [] (nested_in 63 0) (65 ∷ [])) 8 64
    ∷ []

-- Sound: x' in s(y), y' in s, (FALSE or s(x y)), (exists in s(x): s) and (IF s(y) THEN s ELSE FALSE), all conjoined. Reads are those of
-- its stars one after another; the order is 3 1; the one transition keeps FALSE and tests, and no guard.
abbrev every_kind : Case
every_kind = record {
  words = table (40 ∷ 300 ∷ []) (1 ∷ 0 ∷ 1 ∷ 0 ∷ 1 ∷ [])
      (row 3 5 15 0
      ∷ row 2 0 3 0 ∷ row 1 1 3 0
      ∷ row 2 1 5 1 ∷ row 1 0 5 1
      ∷ row 4 2 8 1 ∷ row 0 0 7 1 ∷ row 1 2 8 1
      ∷ row 5 0 11 3 ∷ row 1 1 10 3 ∷ row 1 0 11 4
      ∷ row 6 0 15 4 ∷ row 1 1 13 4 ∷ row 1 0 14 5 ∷ row 0 0 15 5
      ∷ [])
      (1 ∷ 3 ∷ []);
  expected = listed (accepted 2 15 2 1) (3 ∷ 1 ∷ []) (line (3 ∷ 1 ∷ []) (1 ∷ 3 ∷ 6 ∷ 7 ∷ 10 ∷ 13 ∷ 14 ∷ []) ∷ []);
}

-- 62 conjunctions round a candidate: accepted
abbrev deepest : Case
deepest = record { words = table (7 ∷ []) [] (nested_in 62 0) (62 ∷ []); expected = listed (accepted 1 64 1 1) (62 ∷ []) (line (62 ∷ []) (62 ∷ []) ∷ []) }

abbrev pub row_cases : List Case
row_cases = own_words ++ children ++ after_rows ++ (every_kind ∷ deepest ∷ [])
