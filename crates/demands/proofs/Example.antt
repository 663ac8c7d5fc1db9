-- The document's listing, asked of the exported functions: the premises of the demands can be met, and what lies beyond what is
-- filled stays.
use Prim.Native.Nat.{ℕ, ◌≤◌}
use native.Mathlib.Omega.{arith}
use mathlib.Core.Path.{◌≡◌, refl, sym, ap, subst}
use mathlib.Core.List.{List, [], ◌∷◌}
use lib.ListN.{length}
use Rattle.entries.specs.Front.{in_front}
use Rattle.rows.specs.Rows.{form_of}
use Rattle.rows.specs.Formula.{star_at, children_at, node_at, formula_at}
use Rattle.written.specs.Example.{words_of_p, table_of_p}
use Rattle.written.proofs.Example.{P-is-written, P-is-within}
use Rattle.strategy.proofs.Example.{P-is-accepted}
use Rattle.filling.specs.Filling.{Outcome, fills}
use Rattle.answers.specs.declared.Counts.{Counts}
use Rattle.answers.specs.Requests.{judge_of, judge_answer, outcome_of, of_transition, order_of, transition_of, assignments_of}
use Rattle.answers.specs.Inside.Judged.{FitCounts}
use Rattle.answers.specs.Requests.{order_outcome, transition_outcome, assignments_outcome}
use Rattle.nocturenc.specs.Packed.{counts_of, AnswerPacked, FillsPacked}
use Rattle.nocturenc.proofs.Reading.{read-counts, read-filled}
use Rattle.demands.specs.Allowed.{Address, JudgeAnswers, OrderAnswers, TransitionAnswers, AssignmentsAnswers}
use Rattle.demands.specs.Demands.{Accepted}

abbrev somewhere : Address
somewhere = record { at = (0, 0); name = 0 }

abbrev counts_of_p : Counts
counts_of_p = record { variables = 2; rows = 8; chosen = 3; transitions = 2 }

judge-answers : JudgeAnswers words_of_p (counts_of counts_of_p)
unfolding judge_of
judge-answers =
    let fits : FitCounts counts_of_p =
    record { variables_fit = omega arith; rows_fit = omega arith; chosen_fit = omega arith; transitions_fit = omega arith } in
    let packed = read-counts counts_of_p (counts_of counts_of_p) fits refl in
    (([], tt), somewhere, subst (λ j. AnswerPacked (judge_answer j) (counts_of counts_of_p)) (sym P-is-accepted) packed)

-- accepted with V, N, S and the count of the listing
pub listing-accepted : Accepted words_of_p (counts_of counts_of_p) table_of_p
listing-accepted = record { answered = judge-answers; accepted = omega arith; within = P-is-within; writes = sym P-is-written }

-- an outcome that fills, packed
filling : (o : Outcome ℕ) (ws lent : List ℕ) → length ws ≤ 4096 → o ≡ fills ws → FillsPacked o lent (in_front ws lent) (length ws)
filling o ws lent few e =
    let (answered, read) = read-filled (record { count = length ws }) few in
    subst (λ x. FillsPacked x lent (in_front ws lent) (length ws)) (sym e) (record { answered = answered; read_so = read; left_so = refl })

order_is : order_of words_of_p 4 ≡ fills (1 ∷ 4 ∷ 6 ∷ [])
unfolding form_of star_at children_at node_at formula_at outcome_of
order_is = ap (λ j. outcome_of j (order_outcome words_of_p 4)) P-is-accepted

transition_is : transition_of words_of_p 1 9 ≡ fills (0 ∷ 1 ∷ 0 ∷ 0 ∷ 0 ∷ 0 ∷ 1 ∷ 0 ∷ [])
unfolding form_of star_at children_at node_at formula_at outcome_of of_transition
transition_is = ap (λ j. outcome_of j (transition_outcome words_of_p 1 9)) P-is-accepted

assignments_are : assignments_of words_of_p 1 3 ≡ fills (1 ∷ 6 ∷ [])
unfolding form_of star_at children_at node_at formula_at outcome_of of_transition
assignments_are = ap (λ j. outcome_of j (assignments_outcome words_of_p 1 3)) P-is-accepted

pub listing-ordered : OrderAnswers words_of_p (7 ∷ 7 ∷ 7 ∷ 7 ∷ []) (1 ∷ 4 ∷ 6 ∷ 7 ∷ []) 3
listing-ordered = (([], ([], tt)), somewhere, somewhere, filling (order_of words_of_p 4) (1 ∷ 4 ∷ 6 ∷ []) (7 ∷ 7 ∷ 7 ∷ 7 ∷ []) (omega arith) order_is)

pub listing-kept : TransitionAnswers words_of_p 1 (7 ∷ 7 ∷ 7 ∷ 7 ∷ 7 ∷ 7 ∷ 7 ∷ 7 ∷ 7 ∷ []) (0 ∷ 1 ∷ 0 ∷ 0 ∷ 0 ∷ 0 ∷ 1 ∷ 0 ∷ 7 ∷ []) 8
listing-kept = (
  ([], ([], tt)),
  somewhere,
  somewhere,
  filling (transition_of words_of_p 1 9) (0 ∷ 1 ∷ 0 ∷ 0 ∷ 0 ∷ 0 ∷ 1 ∷ 0 ∷ []) (7 ∷ 7 ∷ 7 ∷ 7 ∷ 7 ∷ 7 ∷ 7 ∷ 7 ∷ 7 ∷ []) (omega arith) transition_is,
)

pub listing-assigned : AssignmentsAnswers words_of_p 1 (7 ∷ 7 ∷ 7 ∷ []) (1 ∷ 6 ∷ 7 ∷ []) 2
listing-assigned =
    (([], ([], tt)), somewhere, somewhere, filling (assignments_of words_of_p 1 3) (1 ∷ 6 ∷ []) (7 ∷ 7 ∷ 7 ∷ []) (omega arith) assignments_are)
