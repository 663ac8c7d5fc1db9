-- More formulas with a proposed strategy and the answer, beside document 01's starred cases: what document 01 says and no starred
-- case shows. Each is named by what a reader could take otherwise. proofs/FurtherCases.antt proves that the definitions answer so,
-- crates/demands that the requests answer so to the words that write each case.
use Rattle.std.specs.Prelude.{List, [], ◌∷◌}
use Rattle.paper.specs.Formula.{ℓ, FALSE, test, conjunction, disjunction, exists, IF, only, ◌⨾◌}
use Rattle.paper.specs.Cases.{Case, given, line, accepted_with, refused_with, star, assign, twice}

-- two faults at once: the first of the checks 10, 11, 12, 13 shows ("Refusal numbers, in the order of checks")
abbrev pub first_checks : List Case
first_checks =
    -- x' in s, strategy 1: 10 at 1, before 11 at 0
    given (7 ∷ []) (assign 0 0 []) (1 ∷ []) (refused_with 10 1)
    -- x' in s and x' in s, strategy 1 2 3: 10 at 2, before 12 at 0
    ∷ given (7 ∷ []) twice (1 ∷ 2 ∷ 3 ∷ []) (refused_with 10 2)
    -- x' in s(x), strategy 0 1: 10 at 1, before 13 at 0
    ∷ given (7 ∷ []) (assign 0 0 (0 ∷ [])) (0 ∷ 1 ∷ []) (refused_with 10 1)
    -- x' in s and x' in s, y no part of it, strategy 1 3: 11 at 1, before 12 at 0
    ∷ given (40 ∷ 300 ∷ []) twice (1 ∷ 3 ∷ []) (refused_with 11 1)
    -- x' in s(x), y no part of it, strategy 0: 11 at 1, before 13 at 0
    ∷ given (40 ∷ 300 ∷ []) (assign 0 0 (0 ∷ [])) (0 ∷ []) (refused_with 11 1)
    -- x' in s(x) and x' in s, strategy 1 3: 12 at 0, before 13 at 1
    ∷ given (7 ∷ []) (conjunction (ℓ 0) (assign 1 0 (0 ∷ []) ⨾ only (assign 3 0 []))) (1 ∷ 3 ∷ []) (refused_with 12 0)
    ∷ []

-- several at fault: the lowest shows ("Where several words, rows or variables are at fault")
abbrev pub lowest_shows : List Case
lowest_shows =
    -- x' in s and s, strategy 0 1 2 3: 10 at 0; a conjunction, a star and a test are no candidates
    given (7 ∷ []) (conjunction (ℓ 0) (assign 1 0 [] ⨾ only (test (star 3 [])))) (0 ∷ 1 ∷ 2 ∷ 3 ∷ []) (refused_with 10 0)
    -- the same, strategy 1 2 3: 10 at 2, not at 3
    ∷ given (7 ∷ []) (conjunction (ℓ 0) (assign 1 0 [] ⨾ only (test (star 3 [])))) (1 ∷ 2 ∷ 3 ∷ []) (refused_with 10 2)
    -- x' in s of three variables, strategy 0: 11 at 1, not at 2
    ∷ given (1 ∷ 2 ∷ 3 ∷ []) (assign 0 0 []) (0 ∷ []) (refused_with 11 1)
    -- x' in s or y' in s, strategy 1 3: 11 at 0; the first branch misses y, the second x
    ∷ given (40 ∷ 300 ∷ []) (disjunction (ℓ 0) (assign 1 0 [] ⨾ only (assign 3 1 []))) (1 ∷ 3 ∷ []) (refused_with 11 0)
    -- (y' in s and y' in s and x' in s) or (x' in s and x' in s and y' in s), all chosen: 12 at 0; the first branch has y twice, the
    -- second x
    ∷ given (40 ∷ 300 ∷ [])
    (disjunction (ℓ 0) (conjunction (ℓ 1) (assign 2 1 [] ⨾ assign 4 1 [] ⨾ only (assign 6 0 []))
    ⨾ only (conjunction (ℓ 8) (assign 9 0 [] ⨾ assign 11 0 [] ⨾ only (assign 13 1 [])))))
    (2 ∷ 4 ∷ 6 ∷ 9 ∷ 11 ∷ 13 ∷ []) (refused_with 12 0)
    -- x' in s(x) and y' in s(y), strategy 1 3: 13 at 1, not at 3
    ∷ given (40 ∷ 300 ∷ []) (conjunction (ℓ 0) (assign 1 0 (0 ∷ []) ⨾ only (assign 3 1 (1 ∷ [])))) (1 ∷ 3 ∷ []) (refused_with 13 1)
    -- y' in s(x) and x' in s(x), strategy 1 3: 13 at 3; 1 waits for a label on a cycle and is on none
    ∷ given (40 ∷ 300 ∷ []) (conjunction (ℓ 0) (assign 1 1 (0 ∷ []) ⨾ only (assign 3 0 (0 ∷ [])))) (1 ∷ 3 ∷ []) (refused_with 13 3)
    -- x' in s(z) and y' in s(x) and z' in s(y), strategy 1 3 5: 13 at 1, a cycle of three
    ∷ given (1 ∷ 2 ∷ 3 ∷ []) (conjunction (ℓ 0) (assign 1 0 (2 ∷ []) ⨾ assign 3 1 (0 ∷ []) ⨾ only (assign 5 2 (1 ∷ [])))) (1 ∷ 3 ∷ 5 ∷ []) (refused_with 13 1)
    ∷ []

-- what is frozen, and what comes before what ("Frozen set of a candidate", "Before", "Reported order")
abbrev pub before_others : List Case
before_others =
    -- (x' in s(y) and y' in s) or (x' in s and y' in s(x)), all chosen: alternatives that read each other share no branch; an
    -- assignment that does not ascend; 2 is placed as soon as it can be
    given (40 ∷ 300 ∷ [])
    (disjunction (ℓ 0) (conjunction (ℓ 1) (assign 2 0 (1 ∷ []) ⨾ only (assign 4 1 [])) ⨾ only (conjunction (ℓ 6) (assign 7 0 [] ⨾ only (assign 9 1 (0 ∷ []))))))
    (2 ∷ 4 ∷ 7 ∷ 9 ∷ []) (accepted_with 2 11 4 2 (4 ∷ 2 ∷ 7 ∷ 9 ∷ []) (line (4 ∷ 2 ∷ []) (2 ∷ 4 ∷ []) ∷ line (7 ∷ 9 ∷ []) (7 ∷ 9 ∷ []) ∷ []))
    -- exists in s: x' in s, strategy 2: accepted; the guard is on no branch
    ∷ given (7 ∷ []) (exists (ℓ 0) (star 1 []) (assign 2 0 [])) (2 ∷ []) (accepted_with 1 4 1 1 (2 ∷ []) (line (2 ∷ []) (2 ∷ []) ∷ []))
    -- (exists in s(y): exists in s: x' in s) and y' in s, strategy 5 7: the outer guard is frozen too
    ∷ given (40 ∷ 300 ∷ [])
    (conjunction (ℓ 0) (exists (ℓ 1) (star 2 (1 ∷ [])) (exists (ℓ 3) (star 4 []) (assign 5 0 [])) ⨾ only (assign 7 1 [])))
    (5 ∷ 7 ∷ []) (accepted_with 2 9 2 1 (7 ∷ 5 ∷ []) (line (7 ∷ 5 ∷ []) (5 ∷ 7 ∷ []) ∷ []))
    -- (exists in s: exists in s(y): x' in s) and y' in s, strategy 5 7: and so is the inner one
    ∷ given (40 ∷ 300 ∷ [])
    (conjunction (ℓ 0) (exists (ℓ 1) (star 2 []) (exists (ℓ 3) (star 4 (1 ∷ [])) (assign 5 0 [])) ⨾ only (assign 7 1 [])))
    (5 ∷ 7 ∷ []) (accepted_with 2 9 2 1 (7 ∷ 5 ∷ []) (line (7 ∷ 5 ∷ []) (5 ∷ 7 ∷ []) ∷ []))
    -- (IF s(y) THEN x' in s ELSE x' in s) and y' in s, all chosen: the guard is frozen in both arms
    ∷ given (40 ∷ 300 ∷ []) (conjunction (ℓ 0) (IF (ℓ 1) (star 2 (1 ∷ [])) (assign 3 0 []) (assign 5 0 []) ⨾ only (assign 7 1 []))) (3 ∷ 5 ∷ 7 ∷ [])
    (accepted_with 2 9 3 2 (7 ∷ 3 ∷ 5 ∷ []) (line (7 ∷ 3 ∷ []) (3 ∷ 7 ∷ []) ∷ line (7 ∷ 5 ∷ []) (5 ∷ 7 ∷ []) ∷ []))
    -- IF s(x) THEN x' in s ELSE x' in s, strategy 2 4: 13 at 2
    ∷ given (7 ∷ []) (IF (ℓ 0) (star 1 (0 ∷ [])) (assign 2 0 []) (assign 4 0 [])) (2 ∷ 4 ∷ []) (refused_with 13 2)
    -- IF s THEN x' in s ELSE x' in s(x), strategy 2 4: 13 at 4
    ∷ given (7 ∷ []) (IF (ℓ 0) (star 1 []) (assign 2 0 []) (assign 4 0 (0 ∷ []))) (2 ∷ 4 ∷ []) (refused_with 13 4)
    ∷ []

-- the numbers of transitions, and what they keep ("Key", "Numbering")
abbrev pub numbered_by_keys : List Case
numbered_by_keys =
    -- (x' in s or x' in s) and (y' in s or y' in s), all chosen: of 2 9 and 4 7 the first differing label decides
    given (40 ∷ 300 ∷ [])
    (conjunction (ℓ 0) (disjunction (ℓ 1) (assign 2 0 [] ⨾ only (assign 4 0 [])) ⨾ only (disjunction (ℓ 6) (assign 7 1 [] ⨾ only (assign 9 1 [])))))
    (2 ∷ 4 ∷ 7 ∷ 9 ∷ [])
    (accepted_with 2 11 4 4 (2 ∷ 4 ∷ 7 ∷ 9 ∷ [])
    (line (2 ∷ 7 ∷ []) (2 ∷ 7 ∷ []) ∷ line (2 ∷ 9 ∷ []) (2 ∷ 9 ∷ []) ∷ line (4 ∷ 7 ∷ []) (4 ∷ 7 ∷ []) ∷ line (4 ∷ 9 ∷ []) (4 ∷ 9 ∷ []) ∷ []))
    -- (s or s) and (x' in s or x' in s), strategy 5 7: a transition keeps both tests
    ∷ given (7 ∷ [])
    (conjunction (ℓ 0) (disjunction (ℓ 1) (test (star 2 []) ⨾ only (test (star 3 []))) ⨾ only (disjunction (ℓ 4) (assign 5 0 [] ⨾ only (assign 7 0 [])))))
    (5 ∷ 7 ∷ []) (accepted_with 1 9 2 2 (5 ∷ 7 ∷ []) (line (5 ∷ []) (2 ∷ 3 ∷ 5 ∷ []) ∷ line (7 ∷ []) (2 ∷ 3 ∷ 7 ∷ []) ∷ []))
    -- x' in s and FALSE, strategy 1: FALSE is on the branch, and kept
    ∷ given (7 ∷ []) (conjunction (ℓ 0) (assign 1 0 [] ⨾ only (FALSE (ℓ 3)))) (1 ∷ []) (accepted_with 1 4 1 1 (1 ∷ []) (line (1 ∷ []) (1 ∷ 3 ∷ []) ∷ []))
    ∷ []
