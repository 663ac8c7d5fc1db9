-- Document 01's starred cases ("Both sides of each edge"), in its order and its words: for each the name numbers of its variables,
-- a formula, a proposed strategy, and the answer. The document says the refusals, the number of transitions and what they keep;
-- the rest of an acceptance follows from its words. Labels, variables and places are written as numbers; x is variable 0, y is
-- variable 1. proofs/Cases.antt proves that the definitions answer so; crates/demands proves that the requests answer so to the
-- words that write each case, and adds the case of no words, which is no formula's.
use Rattle.std.specs.Prelude.{ℕ, suc, List, [], ◌∷◌, map, length}
use Rattle.paper.specs.Lists.{those}
use Rattle.paper.specs.Formula.{Label, ℓ, 𝓋, has, Star, Formula, FALSE, test, candidate, conjunction, disjunction, exists, IF, only, ◌⨾◌}
use Rattle.paper.specs.Strategy.{reported_order}
use Rattle.paper.specs.Transition.{keys, kept_labels}
use Rattle.paper.specs.declared.Refusal.{Refusal}
use Rattle.paper.specs.Refusals.{refusal, fault_of}
use Rattle.paper.specs.Judgement.{Judgement, accepted, refused, judge}

-- a transition as the listing shows it: its chosen labels in reported order, its kept labels ascending
pub record Line : Type 0 where
  pub assign : List ℕ
  pub keep : List ℕ

-- the judgement; where it accepts, the reported order, and the transitions by their number
pub record Answer : Type 0 where
  pub judgement : Judgement
  pub order : List ℕ
  pub transitions : List Line

pub record Case : Type 0 where
  pub names : List ℕ
  pub formula : Formula
  pub strategy : List ℕ
  pub expected : Answer

abbrev pub line : List ℕ → List ℕ → Line
line assign keep = record { assign = assign; keep = keep }

-- accepted with V, N, S and the count; refused, or so with a number and a place
abbrev pub accepted_with : ℕ → ℕ → ℕ → ℕ → List ℕ → List Line → Answer
accepted_with v n s t order transitions = record { judgement = accepted v n s t; order = order; transitions = transitions }

abbrev pub refusing : Refusal → Answer
refusing r = record { judgement = refused r; order = []; transitions = [] }

abbrev pub refused_with : ℕ → ℕ → Answer
refused_with number place = refusing (refusal (fault_of number) place)

abbrev pub numbers : List Label → List ℕ
numbers = map (λ l. l.0)

abbrev pub numbered : List ℕ → List Label
numbered = map ℓ

-- the line of the transition with the key k
abbrev pub line_of : Formula → List Label → List Label → Line
line_of f A k = line (numbers (those (has k) (reported_order f A))) (numbers (kept_labels f A k))

abbrev pub answer_after : Judgement → Formula → List Label → Answer
answer_after (accepted v n s t) f A = accepted_with v n s t (numbers (reported_order f A)) (map (line_of f A) (keys f A))
answer_after (refused r) f A = refusing r

-- the number of variables and the proposal of a case, and what the definitions answer
abbrev pub variables : Case → ℕ
variables c = length c.names

abbrev pub proposal : Case → List Label
proposal c = numbered c.strategy

abbrev pub answer : Case → Answer
answer c = answer_after (judge (variables c) c.formula (proposal c)) c.formula (proposal c)

-- a case from its names, formula, strategy and answer
abbrev pub given : List ℕ → Formula → List ℕ → Answer → Case
given names formula strategy expected = record { names = names; formula = formula; strategy = strategy; expected = expected }

-- a star with the label n, and v' in a star, with the label n and its star the next one; the star reads r
abbrev pub star : ℕ → List ℕ → Star
star n r = record { label = ℓ n; reads = map 𝓋 r }

abbrev pub assign : ℕ → ℕ → List ℕ → Formula
assign n v r = candidate (ℓ n) (𝓋 v) (star (suc n) r)

-- the listing: x' in s, and (y' in s(x), or y' in s)
abbrev pub P : Formula
P = conjunction (ℓ 0) (assign 1 0 [] ⨾ only (disjunction (ℓ 3) (assign 4 1 (0 ∷ []) ⨾ only (assign 6 1 []))))

-- x' in s and x' in s
abbrev pub twice : Formula
twice = conjunction (ℓ 0) (assign 1 0 [] ⨾ only (assign 3 0 []))

-- four variables: a, b, c and d are 0, 1, 2 and 3
abbrev pub four : Formula
four = conjunction (ℓ 0)
    (disjunction (ℓ 1) (conjunction (ℓ 2) (assign 3 0 (3 ∷ []) ⨾ only (assign 5 2 [])) ⨾ only (conjunction (ℓ 7) (assign 8 2 (1 ∷ []) ⨾ only (assign 10 0 []))))
    ⨾ only (disjunction (ℓ 12)
    (conjunction (ℓ 13) (assign 14 1 (0 ∷ []) ⨾ only (assign 16 3 [])) ⨾ only (conjunction (ℓ 18) (assign 19 3 (2 ∷ []) ⨾ only (assign 21 1 []))))))

abbrev pub starred_formulas : List Case
starred_formulas =
    -- P: the listing above.
    given (40 ∷ 300 ∷ []) P (1 ∷ 4 ∷ 6 ∷ []) (accepted_with 2 8 3 2 (1 ∷ 4 ∷ 6 ∷ []) (line (1 ∷ 4 ∷ []) (1 ∷ 4 ∷ []) ∷ line (1 ∷ 6 ∷ []) (1 ∷ 6 ∷ []) ∷ []))
    -- P with strategy 1 4: 11 at 1.
    ∷ given (40 ∷ 300 ∷ []) P (1 ∷ 4 ∷ []) (refused_with 11 1)
    -- P with 1 2 4 6: 10 at 2.
    ∷ given (40 ∷ 300 ∷ []) P (1 ∷ 2 ∷ 4 ∷ 6 ∷ []) (refused_with 10 2)
    -- x' in s(x), strategy 0: 13 at 0.
    ∷ given (7 ∷ []) (assign 0 0 (0 ∷ [])) (0 ∷ []) (refused_with 13 0)
    -- x' in s(y) and y' in s(x), strategy 1 3: 13 at 1.
    ∷ given (40 ∷ 300 ∷ []) (conjunction (ℓ 0) (assign 1 0 (1 ∷ []) ⨾ only (assign 3 1 (0 ∷ [])))) (1 ∷ 3 ∷ []) (refused_with 13 1)
    -- x' in s and x' in s: strategy 1 accepted, one transition, kept 1 3;
    ∷ given (7 ∷ []) twice (1 ∷ []) (accepted_with 1 5 1 1 (1 ∷ []) (line (1 ∷ []) (1 ∷ 3 ∷ []) ∷ []))
    -- strategy 1 3: 12 at 0.
    ∷ given (7 ∷ []) twice (1 ∷ 3 ∷ []) (refused_with 12 0)
    -- x' in s or FALSE, strategy 1: 11 at 0.
    ∷ given (7 ∷ []) (disjunction (ℓ 0) (assign 1 0 [] ⨾ only (FALSE (ℓ 3)))) (1 ∷ []) (refused_with 11 0)
    -- exists in s(x): x' in s, strategy 2: 13 at 2.
    ∷ given (7 ∷ []) (exists (ℓ 0) (star 1 (0 ∷ [])) (assign 2 0 [])) (2 ∷ []) (refused_with 13 2)
    -- x' in s and (s or s(x)), strategy 1: one transition, kept 1 4 5.
    ∷ given (7 ∷ []) (conjunction (ℓ 0) (assign 1 0 [] ⨾ only (disjunction (ℓ 3) (test (star 4 []) ⨾ only (test (star 5 (0 ∷ []))))))) (1 ∷ [])
    (accepted_with 1 6 1 1 (1 ∷ []) (line (1 ∷ []) (1 ∷ 4 ∷ 5 ∷ []) ∷ []))
    -- IF s THEN x' in s ELSE x' in s, strategy 2 4: two transitions, kept 2 and kept 4.
    ∷ given (7 ∷ []) (IF (ℓ 0) (star 1 []) (assign 2 0 []) (assign 4 0 [])) (2 ∷ 4 ∷ [])
    (accepted_with 1 6 2 2 (2 ∷ 4 ∷ []) (line (2 ∷ []) (2 ∷ []) ∷ line (4 ∷ []) (4 ∷ []) ∷ []))
    -- Four variables a b c d: ((a' in s(d) and c' in s) or (c' in s(b) and a' in s)) and ((b' in s(a) and d' in s) or (d' in s(c) and
    -- b' in s)), strategy 3 5 8 10 14 16 19 21: 13 at 3.
    ∷ given (1 ∷ 2 ∷ 3 ∷ 4 ∷ []) four (3 ∷ 5 ∷ 8 ∷ 10 ∷ 14 ∷ 16 ∷ 19 ∷ 21 ∷ []) (refused_with 13 3)
    ∷ []
