-- The four requests of document 01 ("Requests and what they give"): the answer to any words, and every lent word or byte
-- afterwards. The last three fill a lent slice (crates/filling/specs/Filling.antt).
use Rattle.std.specs.Prelude.{ℕ, cond, List, map, eqb, leb, length, Result, Ok, Err}
use Rattle.paper.specs.declared.refusals.Fault.TheVariants.{NoSuchTransition, Uneven}
use Rattle.paper.specs.Refusals.{refusal}
use Rattle.paper.specs.declared.Label.{Label}
use Rattle.paper.specs.Lists.{those}
use Rattle.paper.specs.Formula.{has, labels}
use Rattle.paper.specs.Strategy.{reported_order}
use Rattle.paper.specs.Transition.{key_at, is_kept}
use Rattle.table.specs.declared.Layout.{Layout}
use Rattle.written.specs.Tables.{formula_in}
use Rattle.filling.specs.Filling.{Outcome, refuses, unless_short}
use Rattle.strategy.specs.Judge.{judged_of, order_in, proposal_in}
use Rattle.answers.specs.declared.Counts.{Counts}
use Rattle.paper.specs.declared.Refusal.{Refusal}
use Rattle.strategy.specs.declared.Accepted.{Accepted}

-- Judge: V, N, S and the transition count, or a refusal
abbrev pub as_counts : Accepted → Counts
as_counts a = record { variables = a.layout.variables; rows = a.layout.rows; chosen = a.layout.chosen; transitions = a.transitions }

abbrev pub judge_answer : Result Accepted Refusal → Result Counts Refusal
judge_answer (Ok a) = Ok (as_counts a)
judge_answer (Err r) = Err r

unfoldable pub judge_of : List ℕ → Result Counts Refusal
judge_of words = judge_answer (judged_of words)

-- The formula and the proposal of words laid out so, the reported order, and transition k: its key, its kept labels.
module _ (words : List ℕ) (l : Layout) where
  abbrev pub reported : List Label
  reported = reported_order (formula_in words l) (proposal_in words l)

  abbrev pub key_of : ℕ → List Label
  key_of = key_at (formula_in words l) (proposal_in words l)

  -- 1 for a kept label, else 0
  abbrev pub kept_mark : ℕ → Label → ℕ
  kept_mark k i = cond (is_kept (formula_in words l) (proposal_in words l) (key_of k) i) 1 0

  abbrev pub kept_marks : ℕ → List ℕ
  kept_marks k = map (kept_mark k) (labels (formula_in words l))

  -- its chosen labels in reported order
  abbrev pub assigned_of : ℕ → List ℕ
  assigned_of k = map (λ i. i.0) (those (has (key_of k)) reported)

-- 15: number k is not below the count; 18: transition k has not V chosen labels
abbrev pub unless_absent : ℕ → ℕ → ℕ → List Label → Outcome ℕ → Outcome ℕ
unless_absent k count #V key next =
    cond (leb count k) (refuses (refusal NoSuchTransition count)) (cond (eqb (length key) #V) next (refuses (refusal Uneven k)))

abbrev pub order_outcome : List ℕ → ℕ → Layout → ℕ → Outcome ℕ
order_outcome words room l count = unless_short room (order_in words l)

-- what is asked of transition k
unfoldable pub of_transition : (List ℕ → Layout → ℕ → List ℕ) → List ℕ → ℕ → ℕ → Layout → ℕ → Outcome ℕ
of_transition what words k room l count = unless_absent k count l.variables (key_of words l k) (unless_short room (what words l k))

abbrev pub transition_outcome : List ℕ → ℕ → ℕ → Layout → ℕ → Outcome ℕ
transition_outcome = of_transition kept_marks

abbrev pub assignments_outcome : List ℕ → ℕ → ℕ → Layout → ℕ → Outcome ℕ
assignments_outcome = of_transition assigned_of

-- the judgement first
unfoldable pub outcome_of : Result Accepted Refusal → (Layout → ℕ → Outcome ℕ) → Outcome ℕ
outcome_of (Err r) next = refuses r
outcome_of (Ok a) next = next a.layout a.transitions

-- Order: the first S words. Transition k: the first N bytes. Assignments of transition k: V words.
abbrev pub order_of : List ℕ → ℕ → Outcome ℕ
order_of words room = outcome_of (judged_of words) (order_outcome words room)

abbrev pub transition_of : List ℕ → ℕ → ℕ → Outcome ℕ
transition_of words k room = outcome_of (judged_of words) (transition_outcome words k room)

abbrev pub assignments_of : List ℕ → ℕ → ℕ → Outcome ℕ
assignments_of words k room = outcome_of (judged_of words) (assignments_outcome words k room)
