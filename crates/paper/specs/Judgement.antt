-- The judgement of a formula with #V variables and a proposed strategy A, whose labels ascend
-- (document 01, refusals 10 to 14, in the order of checks).
use Rattle.std.specs.Prelude.{ℕ, zero, suc, cond, not, List, [], ◌∷◌, ◌++◌, map, eqb, ltb, length}
use Rattle.paper.specs.declared.refusals.Fault.{Fault}
use Rattle.paper.specs.declared.Refusal.{Refusal}
use Rattle.paper.specs.declared.refusals.Fault.TheVariants.{NoCandidate, NoOrder, TooMany, VariableMissed, VariableTwice}
use Rattle.paper.specs.Refusals.{refusal}
use Rattle.paper.specs.Limits.{most_transitions}
use Rattle.paper.specs.Lists.{any_of, those}
use Rattle.paper.specs.Formula.{Label, Variable, 𝓋, Formula, labels, is_candidate}
use Rattle.paper.specs.Branch.{branches}
use Rattle.paper.specs.Before.{before}
use Rattle.paper.specs.Order.{on_cycle}
use Rattle.paper.specs.Strategy.{chosen_on}
use Rattle.paper.specs.Transition.{keys}

-- accepted with V, N, S and the number of transitions; or refused
pub data Judgement : Type 0 where
  accepted : ℕ → ℕ → ℕ → ℕ → Judgement
  refused : Refusal → Judgement

-- refused at the first offender, or else what follows
abbrev pub refuse : Fault → List ℕ → Judgement → Judgement
refuse fault [] next = next
refuse fault (place ∷ others) next = refused (refusal fault place)

-- the variables 0 to #V - 1
abbrev pub variables : ℕ → List Variable
variables zero = []
variables (suc n) = variables n ++ (𝓋 n ∷ [])

-- 10: the chosen labels that are no candidates
abbrev pub strangers : Formula → List Label → List Label
strangers f A = those (λ l. not (is_candidate f l)) A

-- 11: the variables that have no chosen label on some branch
abbrev pub missed : ℕ → Formula → List Label → List Variable
missed #V f A = those (λ v. any_of (λ b. eqb (chosen_on f A b v) 0) (branches f)) (variables #V)

-- 12: the variables that have two or more on some branch
abbrev pub doubled : ℕ → Formula → List Label → List Variable
doubled #V f A = those (λ v. any_of (λ b. ltb 1 (chosen_on f A b v)) (branches f)) (variables #V)

-- 13: the chosen labels on a cycle of "before"
abbrev pub on_cycles : Formula → List Label → List Label
on_cycles f A = those (on_cycle (before f A) A) A

-- 14, or an acceptance
abbrev pub judge_count : ℕ → Formula → List Label → Judgement
judge_count #V f A =
    cond (ltb most_transitions (length (keys f A))) (refused (refusal TooMany 0)) (accepted #V (length (labels f)) (length A) (length (keys f A)))

-- 13, and what follows it
abbrev pub judge_order : ℕ → Formula → List Label → Judgement
judge_order #V f A = refuse NoOrder (map (λ l. l.0) (on_cycles f A)) (judge_count #V f A)

-- 10, 11, 12, and what follows them
abbrev pub judge : ℕ → Formula → List Label → Judgement
judge #V f A =
    refuse NoCandidate (map (λ l. l.0) (strangers f A))
    (refuse VariableMissed (map (λ v. v.0) (missed #V f A))
    (refuse VariableTwice (map (λ v. v.0) (doubled #V f A))
    (judge_order #V f A)))
