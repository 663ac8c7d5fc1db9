-- Cases as words, and what the requests answer to each, refusals included. Document 01's starred cases ("Both sides of each edge") are
-- one list: the formulas and answers of crates/paper/specs/Cases.antt, here as the words that write them, and the case of no words.
-- The further formulas of crates/paper/specs/FurtherCases.antt are taken in the same way. proofs/Cases.antt proves that the
-- definitions answer so.
use Rattle.std.specs.Prelude.{ℕ, cond, List, [], ◌∷◌, ◌++◌, map, eqb, length, Result, Ok, Err}
use Rattle.paper.specs.declared.Refusal.{Refusal}
use Rattle.paper.specs.Refusals.{refusal, fault_of}
use Rattle.paper.specs.Lists.{any_of}
use Rattle.paper.specs.Judgement.{Judgement, accepted, refused}
use Rattle.paper.specs.Cases.{Line, proposal, starred_formulas}
use Rattle.paper.specs.Cases as paper
use Rattle.paper.specs.FurtherCases.{first_checks, lowest_shows, before_others, numbered_by_keys}
use Rattle.paper.specs.Lists.{up_to}
use Rattle.written.specs.Written.{written}
use Rattle.filling.specs.Filling.{Outcome, refuses, fills}
use Rattle.answers.specs.Requests.{judge_of, order_of, transition_of, assignments_of}
use Rattle.answers.specs.declared.Counts.{Counts}

-- what judge, order, and for each k transition k and its assignments answer
pub record Listing : Type 0 where
  pub judged : Result Counts Refusal
  pub ordered : Outcome ℕ
  pub kept : List (Outcome ℕ)
  pub assigned : List (Outcome ℕ)

pub record Case : Type 0 where
  pub words : List ℕ
  pub expected : Listing

-- the answers, with room for the longest
abbrev count_in : Result Counts Refusal → ℕ
count_in (Ok c) = c.transitions
count_in (Err x) = 0

abbrev pub listing : List ℕ → Listing
listing words = record {
  judged = judge_of words;
  ordered = order_of words 4096;
  kept = map (λ k. transition_of words k 4096) (up_to (count_in (judge_of words)));
  assigned = map (λ k. assignments_of words k 4096) (up_to (count_in (judge_of words)));
}

abbrev pub refusing : Refusal → Listing
refusing r = record { judged = Err r; ordered = refuses r; kept = []; assigned = [] }

abbrev pub refuses_with : ℕ → ℕ → Listing
refuses_with number place = refusing (refusal (fault_of number) place)

-- words that are refused
abbrev pub faulty : List ℕ → ℕ → ℕ → Case
faulty words number place = record { words = words; expected = refuses_with number place }

-- a row's four words; words section by section, each after its count: names, reads, rows, strategy
abbrev pub row : ℕ → ℕ → ℕ → ℕ → List ℕ
row kind arg end from = kind ∷ arg ∷ end ∷ from ∷ []

abbrev counted : List ℕ → List ℕ
counted entries = length entries ∷ entries

abbrev together : List (List ℕ) → List ℕ
together [] = []
together (ws ∷ others) = ws ++ together others

abbrev pub table : List ℕ → List ℕ → List (List ℕ) → List ℕ → List ℕ
table names reads rows strategy = counted names ++ counted reads ++ (length rows ∷ together rows) ++ counted strategy

-- of n labels, 1 for a kept one, else 0
abbrev marks : ℕ → List ℕ → List ℕ
marks n keep = map (λ i. cond (any_of (eqb i) keep) 1 0) (up_to n)

-- a formula's answer, as the requests give it: the judgement, the order, and of each transition the marks and the assignments
abbrev pub listed : Judgement → List ℕ → List Line → Listing
listed (accepted v n s t) order lines = record {
  judged = Ok (record { variables = v; rows = n; chosen = s; transitions = t });
  ordered = fills order;
  kept = map (λ l. fills (marks n l.keep)) lines;
  assigned = map (λ l. fills l.assign) lines;
}
listed (refused r) order lines = refusing r

-- the words that write a formula with its names and its proposal
abbrev pub words_of : paper.Case → List ℕ
words_of c = written (record { names = c.names; formula = c.formula; strategy = proposal c })

abbrev pub of_formula : paper.Case → Case
of_formula c = record { words = words_of c; expected = listed c.expected.judgement c.expected.order c.expected.transitions }

-- the starred cases, the last of them: No words: 1 at 0.
abbrev pub starred : List Case
starred = map of_formula starred_formulas ++ (faulty [] 1 0 ∷ [])

-- the cases of the judgement beside them
abbrev pub further : List Case
further = map of_formula (first_checks ++ lowest_shows ++ before_others ++ numbered_by_keys)
