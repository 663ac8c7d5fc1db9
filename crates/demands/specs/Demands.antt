-- The mission's demands. Each is about whatever the four functions for C may answer under their own contracts (specs/Allowed.antt),
-- for any words, any k and any lent slice, in the terms of document 001 (crates/paper/specs) and of the words that write a table
-- (crates/written/specs/Written.antt). proofs/Demands.antt proves `Demand1`, `Demand2` and `Demand3`.
use Rattle.std.specs.Prelude.{ℕ, ◌+◌, ◌*◌, ◌^◌, ◌<◌, ◌≤◌, ◌≡◌, true, cond, ◌↔◌, ◌⊎◌, eqb, length, take, drop}
use mathlib.Core.List.{List, [], ◌∷◌, map, Memᴰ}
use Rattle.paper.specs.Limits.{most_transitions}
use Rattle.paper.specs.declared.Label.{Label}
use Rattle.paper.specs.declared.refusals.Fault.TheVariants.{Absent, CountOutOfRange, NameNotAbove, ReadBeyond, RowBroken, ReadsLeft, TooDeep, EntryUnfit}
use Rattle.paper.specs.declared.refusals.Fault.TheVariants.{WordsFollow, NoCandidate, VariableMissed, VariableTwice, NoOrder, TooMany, NoSuchTransition, Uneven}
use Rattle.paper.specs.declared.refusals.Fault.TheVariants.{OutTooShort}
use Rattle.paper.specs.declared.refusals.Fault.{Fault}
use Rattle.paper.specs.Refusals.{fault_number}
use Rattle.paper.specs.Lists.{any_of, those}
use Rattle.paper.specs.Formula.{ℓ, has, Formula, labels}
use Rattle.paper.specs.Branch.{branches}
use Rattle.paper.specs.Strategy.{Strategy, reported_order}
use Rattle.paper.specs.Transition.{slice_by, class, is_kept, keys, key_at, transition, KeysAreListed}
use Rattle.paper.specs.Meaning.{Meaning, True}
use Rattle.paper.specs.Carry.{Carried, unset}
use Rattle.written.specs.Written.{Table, Within, written}
use Rattle.marks.specs.Marks.{is_marked}
use Rattle.demands.specs.Allowed.{JudgeAnswers, Request, OrderAnswers, TransitionAnswers, AssignmentsAnswers, AsksNothing}
use Rattle.demands.specs.Allowed.{refusal_number, refusal_place, variable_count, row_count, chosen_count, transition_count}

-- Demand 1. Every answer is an acceptance or one refusal, and a refusal writes nothing.

-- The reasons to refuse, and their numbers, that a request can give (document 01: "15 to 18 come only from the requests that they name"). 17 is the
-- lister's.
abbrev pub judge_faults : List Fault
judge_faults =
    Absent ∷ CountOutOfRange ∷ NameNotAbove ∷ ReadBeyond ∷ RowBroken ∷ ReadsLeft ∷ TooDeep ∷ EntryUnfit ∷ WordsFollow
    ∷ NoCandidate ∷ VariableMissed ∷ VariableTwice ∷ NoOrder ∷ TooMany ∷ []

abbrev pub JudgeGives : ℕ → Type 0
JudgeGives n = any_of (eqb n) (map fault_number judge_faults) ≡ true

abbrev pub OrderGives : ℕ → Type 0
OrderGives n = JudgeGives n ⊎ (n ≡ fault_number OutTooShort)

abbrev pub TransitionGives : ℕ → Type 0
TransitionGives n = JudgeGives n ⊎ ((n ≡ fault_number NoSuchTransition) ⊎ ((n ≡ fault_number Uneven) ⊎ (n ≡ fault_number OutTooShort)))

-- the answer is an acceptance, or a refusal's number and place and nothing beside them
abbrev pub IsAnswer : (ℕ → Type 0) → ℕ → Type 0
IsAnswer Gives r = (refusal_number r ≡ 0) ⊎ (Gives (refusal_number r) × (r ≡ refusal_number r * 2 ^ 56 + refusal_place r))

-- whatever a request that fills answers to the words, and leaves
pub record Answered (words : List ℕ) (Gives : ℕ → Type 0) (request : Request) : Type 0 where
  pub is_answer : (lent left : List ℕ) (r : ℕ) → request lent left r → IsAnswer Gives r
  pub refusal_writes_nothing : (lent left : List ℕ) (r : ℕ) → request lent left r → 1 ≤ refusal_number r → left ≡ lent
  -- the table is judged first, and what nocturenc_judge refuses is refused alike
  pub judged_first : (j : ℕ) → JudgeAnswers words j → 1 ≤ refusal_number j → (lent left : List ℕ) (r : ℕ) → request lent left r → r ≡ j

pub record Demand1 : Type 0 where
  pub asks_nothing : AsksNothing
  pub judge : (words : List ℕ) (r : ℕ) → JudgeAnswers words r → IsAnswer JudgeGives r
  pub order : (words : List ℕ) → Answered words OrderGives (OrderAnswers words)
  pub transition : (words : List ℕ) (k : ℕ) → Answered words TransitionGives (TransitionAnswers words k)
  pub assignments : (words : List ℕ) (k : ℕ) → Answered words TransitionGives (AssignmentsAnswers words k)

-- What a request that fills does to a lent slice, whatever it answers: it refuses for this reason, by its number, with this place, and leaves the slice
-- as it was; or it fills the first n words or bytes, so that P holds of them, answers n, and leaves those beyond as they were.
abbrev pub Refuses : Request → Fault → ℕ → List ℕ → Type 0
Refuses request fault place lent =
    (left : List ℕ) (r : ℕ) → request lent left r → (refusal_number r ≡ fault_number fault) × (refusal_place r ≡ place) × (left ≡ lent)

abbrev pub Fills : Request → ℕ → (List ℕ → Type 0) → List ℕ → Type 0
Fills request n P lent = (left : List ℕ) (r : ℕ) → request lent left r → (r ≡ n) × P (take n left) × (drop n left ≡ drop n lent)

-- Demand 2, the judgement.

-- the words write the table, whose strategy is an assignment strategy (document 001, Definition 4) with at most 65,535 transitions
pub record Acceptable (words : List ℕ) (t : Table) : Type 0 where
  pub within : Within t
  pub writes : words ≡ written t
  pub strategy : Strategy (length t.names) t.formula t.strategy
  pub few : length (keys t.formula t.strategy) ≤ most_transitions

-- V, N, S and the number of distinct keys
pub record Counts (t : Table) (r : ℕ) : Type 0 where
  pub variables : variable_count r ≡ length t.names
  pub rows : row_count r ≡ length (labels t.formula)
  pub chosen : chosen_count r ≡ length t.strategy
  pub transitions : transition_count r ≡ length (keys t.formula t.strategy)

-- whatever nocturenc_judge answers to any words
pub record JudgedExactly (words : List ℕ) (r : ℕ) : Type 0 where
  pub accepted : (refusal_number r ≡ 0) ↔ ((t : Table) × Acceptable words t)
  pub counts : (t : Table) → Acceptable words t → Counts t r

-- Demand 2, the transitions; and demand 3.

-- words that nocturenc_judge accepts with the answer r, and the table that they write: there is one (`accepted` above), and no other
-- (crates/written/specs/Tables.antt, `WrittenOnce`)
pub record Accepted (words : List ℕ) (r : ℕ) (t : Table) : Type 0 where
  pub answered : JudgeAnswers words r
  pub accepted : refusal_number r ≡ 0
  pub within : Within t
  pub writes : words ≡ written t

-- the k-th key; the reported order
abbrev pub key_of : Table → ℕ → List Label
key_of t = key_at t.formula t.strategy

abbrev pub reported : Table → List Label
reported t = reported_order t.formula t.strategy

-- the formula sliced by the labels whose byte is 1
abbrev pub slice_by_bytes : Table → List ℕ → Formula
slice_by_bytes t bytes = slice_by (λ l. is_marked bytes l.0) t.formula

-- the bytes of transition k: 1 for a label that the class of the k-th key keeps, else 0; so their slice is that of Definition 5
pub record IsTransition (t : Table) (k : ℕ) (bytes : List ℕ) : Type 0 where
  pub bytes_are : bytes ≡ map (λ l. cond (is_kept t.formula t.strategy (key_of t k) l) 1 0) (labels t.formula)
  pub slice_is : slice_by_bytes t bytes ≡ transition t.formula t.strategy (key_of t k)

-- the words of the assignments of transition k, as labels: they are the chosen labels of each branch of its class, in reported
-- order, and carried out one by one from nothing set, each reads only what is set, none sets twice, and all are set at the end
pub record IsAssignments (t : Table) (k : ℕ) (ws : List ℕ) : Type 0 where
  pub of_branch : (b : List Label) → Memᴰ b (class t.formula t.strategy (key_of t k)) → map ℓ ws ≡ those (has b) (reported t)
  pub carried : Carried (length t.names) t.formula unset (map ℓ ws)

-- For each number below the count one transition, in the order of the keys, which are the branches' keys, all, each once; different
-- numbers have different bytes, so keep different labels; the class of every branch stands at some number; and there is no
-- transition more: 15 at the count, whatever the room. Else 16 at N, where there is no room.
pub record TransitionsListed (words : List ℕ) (r : ℕ) (t : Table) : Type 0 where
  pub listed : KeysAreListed t.formula t.strategy
  pub each : (k : ℕ) → k < transition_count r → (lent : List ℕ) → row_count r ≤ length lent
      → Fills (TransitionAnswers words k) (row_count r) (IsTransition t k) lent
  pub differ : (j k : ℕ) → j < transition_count r → k < transition_count r → (bytes : List ℕ) → IsTransition t j bytes → IsTransition t k bytes → j ≡ k
  pub stands : (b : List Label) → Memᴰ b (branches t.formula)
      → (k : ℕ) × (k < transition_count r) × Memᴰ b (class t.formula t.strategy (key_of t k))
  pub no_more : (k : ℕ) → transition_count r ≤ k → (lent : List ℕ) → Refuses (TransitionAnswers words k) NoSuchTransition (transition_count r) lent
  pub too_short : (k : ℕ) → k < transition_count r → (lent : List ℕ) → length lent < row_count r
      → Refuses (TransitionAnswers words k) OutTooShort (row_count r) lent

pub record Demand2 : Type 0 where
  pub judged : (words : List ℕ) (r : ℕ) → JudgeAnswers words r → JudgedExactly words r
  pub transitions : (words : List ℕ) (r : ℕ) (t : Table) → Accepted words r t → TransitionsListed words r t

-- Demand 3, first half: the order request gives the reported order, and the very words that the assignments request gives for k
-- are the chosen labels of each branch of class k, and are carried out. Every branch is of some such class (`stands`).
pub record CarriedOut (words : List ℕ) (r : ℕ) (t : Table) : Type 0 where
  pub ordered : (lent : List ℕ) → chosen_count r ≤ length lent → Fills (OrderAnswers words) (chosen_count r) (λ ws. map ℓ ws ≡ reported t) lent
  pub order_too_short : (lent : List ℕ) → length lent < chosen_count r → Refuses (OrderAnswers words) OutTooShort (chosen_count r) lent
  pub assigned : (k : ℕ) → k < transition_count r → (lent : List ℕ) → variable_count r ≤ length lent
      → Fills (AssignmentsAnswers words k) (variable_count r) (IsAssignments t k) lent
  pub no_more : (k : ℕ) → transition_count r ≤ k → (lent : List ℕ) → Refuses (AssignmentsAnswers words k) NoSuchTransition (transition_count r) lent
  pub too_short : (k : ℕ) → k < transition_count r → (lent : List ℕ) → length lent < variable_count r
      → Refuses (AssignmentsAnswers words k) OutTooShort (variable_count r) lent

-- Demand 3, second half: under every meaning the formula is true exactly if, for some k below the count, its slice by the bytes that
-- the transition request leaves for k is true (Theorem 2). `left k` is what it leaves of the slice `lent k`, which has room.
abbrev pub TrueByTransitions : List ℕ → ℕ → Table → Type 0
TrueByTransitions words r t =
    (lent left : ℕ → List ℕ) (answer : ℕ → ℕ)
    → ((k : ℕ) → k < transition_count r → (row_count r ≤ length (lent k)) × TransitionAnswers words k (lent k) (left k) (answer k))
    → (m : Meaning) (xs : List ℕ)
    → True m xs t.formula ↔ ((k : ℕ) × (k < transition_count r) × True m xs (slice_by_bytes t (take (row_count r) (left k))))

pub record Demand3 : Type 0 where
  pub carried_out : (words : List ℕ) (r : ℕ) (t : Table) → Accepted words r t → CarriedOut words r t
  pub true_by_transitions : (words : List ℕ) (r : ℕ) (t : Table) → Accepted words r t → TrueByTransitions words r t
