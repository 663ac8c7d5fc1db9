-- What is asked of the requests themselves (document 01, "Requests and what they give"; refusals 15, 18 and 16): each is lent a slice and
-- gives an answer and what the slice holds afterwards. proofs/Cases.antt proves that the definitions say so.
use Rattle.std.specs.Prelude.{ℕ, List, [], ◌∷◌, length, Result, Ok, Err}
use Rattle.paper.specs.Refusals.{refusal, fault_of}
use Rattle.paper.specs.Formula.{ℓ}
use Rattle.written.specs.Example.{words_of_p}
use Rattle.filling.specs.Filling.{Outcome, refuses, filled_of, after}
use Rattle.answers.specs.Requests.{unless_absent, order_of, transition_of, assignments_of}
use Rattle.demands.specs.Cases.{row, table}
use Rattle.filling.specs.declared.Length.{Length}
use Rattle.paper.specs.declared.Refusal.{Refusal}

-- an answer, and what is left in the lent slice
pub record Left : Type 0 where
  pub answered : Result Length Refusal
  pub left : List ℕ

-- a request, by the room that it is lent; a lent slice; what is wanted
pub record Asked : Type 0 where
  pub request : ℕ → Outcome ℕ
  pub lent : List ℕ
  pub wanted : Left

-- what the definitions say
abbrev pub done : Asked → Left
done r = record { answered = filled_of (r.request (length r.lent)); left = after (r.request (length r.lent)) r.lent }

-- the number of words or bytes filled, and the slice; a refusal, and the slice as it was
abbrev filling : (ℕ → Outcome ℕ) → List ℕ → ℕ → List ℕ → Asked
filling request lent count left = record { request = request; lent = lent; wanted = record { answered = Ok (record { count = count }); left = left } }

abbrev refusing : (ℕ → Outcome ℕ) → List ℕ → ℕ → ℕ → Asked
refusing request lent number place =
    record { request = request; lent = lent; wanted = record { answered = Err (refusal (fault_of number) place); left = lent } }

-- x' in s with its star for a chosen label, which judge refuses with 10 at 1
abbrev star_chosen : List ℕ
star_chosen = table (7 ∷ []) [] (row 2 0 2 0 ∷ row 1 0 2 0 ∷ []) (1 ∷ [])

-- of the listing's words, but where other words are named; it has 8 rows, 2 variables, 3 chosen labels and 2 transitions
abbrev pub requests : List Asked
requests =
    -- order: as long as it must be, longer, too short
    filling (order_of words_of_p) (9 ∷ 9 ∷ 9 ∷ []) 3 (1 ∷ 4 ∷ 6 ∷ [])
    ∷ filling (order_of words_of_p) (9 ∷ 9 ∷ 9 ∷ 9 ∷ 9 ∷ []) 3 (1 ∷ 4 ∷ 6 ∷ 9 ∷ 9 ∷ [])
    ∷ refusing (order_of words_of_p) (9 ∷ 9 ∷ []) 16 3
    -- transition 1: longer, too short
    ∷ filling (transition_of words_of_p 1) (9 ∷ 9 ∷ 9 ∷ 9 ∷ 9 ∷ 9 ∷ 9 ∷ 9 ∷ 9 ∷ 9 ∷ []) 8 (0 ∷ 1 ∷ 0 ∷ 0 ∷ 0 ∷ 0 ∷ 1 ∷ 0 ∷ 9 ∷ 9 ∷ [])
    ∷ refusing (transition_of words_of_p 1) (9 ∷ 9 ∷ 9 ∷ 9 ∷ 9 ∷ 9 ∷ 9 ∷ []) 16 8
    -- assignments of transition 1: longer, too short
    ∷ filling (assignments_of words_of_p 1) (9 ∷ 9 ∷ 9 ∷ []) 2 (1 ∷ 6 ∷ 9 ∷ [])
    ∷ refusing (assignments_of words_of_p 1) (9 ∷ []) 16 2
    -- there is no transition 2: 15 at the count, before 16
    ∷ refusing (transition_of words_of_p 2) (9 ∷ 9 ∷ 9 ∷ 9 ∷ 9 ∷ 9 ∷ 9 ∷ 9 ∷ []) 15 2
    ∷ refusing (transition_of words_of_p 2) [] 15 2
    ∷ refusing (assignments_of words_of_p 2) (9 ∷ 9 ∷ []) 15 2
    ∷ refusing (assignments_of words_of_p 2) [] 15 2
    -- nor a transition of a number beyond 16 bits
    ∷ refusing (transition_of words_of_p 65536) (9 ∷ 9 ∷ 9 ∷ 9 ∷ 9 ∷ 9 ∷ 9 ∷ 9 ∷ []) 15 2
    ∷ refusing (assignments_of words_of_p 65537) (9 ∷ 9 ∷ []) 15 2
    -- the judgement's refusal comes before 15 and 16
    ∷ refusing (order_of star_chosen) [] 10 1
    ∷ refusing (transition_of star_chosen 5) [] 10 1
    ∷ refusing (assignments_of star_chosen 5) [] 10 1
    ∷ []

-- A check of transition k alone, the last of those before 16: no accepted table meets 18 (`Amounts` in crates/answers).
pub record Check : Type 0 where
  pub asked : Outcome ℕ
  pub wanted : Outcome ℕ

abbrev check : Outcome ℕ → Outcome ℕ → Check
check asked wanted = record { asked = asked; wanted = wanted }

-- of three transitions and two variables, with a slice that is too short
abbrev pub checks : List Check
checks =
    -- transition 1 has one chosen label: 18 at 1, before 16
    check (unless_absent 1 3 2 (ℓ 5 ∷ []) (refuses (refusal (fault_of 16) 2))) (refuses (refusal (fault_of 18) 1))
    -- it has three
    ∷ check (unless_absent 1 3 2 (ℓ 5 ∷ ℓ 7 ∷ ℓ 9 ∷ []) (refuses (refusal (fault_of 16) 2))) (refuses (refusal (fault_of 18) 1))
    -- it has two
    ∷ check (unless_absent 1 3 2 (ℓ 5 ∷ ℓ 7 ∷ []) (refuses (refusal (fault_of 16) 2))) (refuses (refusal (fault_of 16) 2))
    -- there is no transition 3: 15 at 3, before 18
    ∷ check (unless_absent 3 3 2 [] (refuses (refusal (fault_of 16) 2))) (refuses (refusal (fault_of 15) 3))
    ∷ []
