-- What the four functions for C may do, by their own contracts (crates/nocturenc/src/exported.rt; crate nocturenc_c exports them with
-- the same contracts, proofs/Same.antt there): of each contract `Pre` is what it asks of the caller and `Post` what it allows, as the
-- prover reads them. And what C reads from the one number that each function answers (include/nocturenc.h). Every demand is stated
-- over these.
use Rattle.std.specs.Prelude.{ℕ, ◌/◌, ◌%◌, ◌^◌, List}
use Rattle.std.specs.Borrow.{GName, Bor, MutBor}
use contract.Lifetimes.{Lfts}
use denote.Triple.Clauses.{Lasts, at_exit}
use borrow.Fn.Kinds.{ParamKind, ResultKind, Dens, res_t, ended_of, Out}
use Rattle.nocturenc.proofs.exported.nocturenc_judge.Kinds as JudgeKinds
use Rattle.nocturenc.proofs.exported.nocturenc_judge.Reads as Judge
use Rattle.nocturenc.proofs.exported.nocturenc_order.Kinds as OrderKinds
use Rattle.nocturenc.proofs.exported.nocturenc_order.Reads as Order
use Rattle.nocturenc.proofs.exported.nocturenc_transition.Kinds as TransitionKinds
use Rattle.nocturenc.proofs.exported.nocturenc_transition.Reads as Transition
use Rattle.nocturenc.proofs.exported.nocturenc_assignments.Kinds as AssignmentsKinds
use Rattle.nocturenc.proofs.exported.nocturenc_assignments.Reads as Assignments

-- where a lent slice lies, and a slice there that holds these words or bytes: one to be read, and one to be written
pub record Address : Type 0 where
  pub at : ℕ × ℕ
  pub name : GName

abbrev pub slice : Address → List ℕ → Bor (List ℕ)
slice where-it-lies contents = record { ref_ptr = where-it-lies.at; now = contents }

abbrev pub open_slice : Address → List ℕ → MutBor (List ℕ)
open_slice where-it-lies contents = record { ref_ptr = where-it-lies.at; ghost_name = where-it-lies.name; now = contents }

-- a contract allows the answer r to the arguments, where what was lent to be written is left as `last` says
module _ (n : ℕ) (ps : List (ParamKind n)) (answer : ResultKind n) (post : Out n ps answer) (κs : Lfts n) where
  abbrev pub Allows : (a : Dens κs ps) → Lasts (ended_of n ps answer) κs a → (res_t answer κs).Denot → Type 0
  Allows a last r = post κs a r (at_exit (ended_of n ps answer) κs a last)

-- nocturenc_judge may answer r to the words
abbrev pub JudgeAnswers : List ℕ → ℕ → Type 0
JudgeAnswers words r = (κs : Lfts 1) × (i : Address) × Allows 1 JudgeKinds.ps JudgeKinds.r Judge.Post κs (slice i words, tt) (tt, tt) r

-- A request that fills: the slice as it is lent, as it is left, and the answer.
abbrev pub Request : Type 1
Request = List ℕ → List ℕ → ℕ → Type 0

-- what nocturenc_order may do
abbrev pub OrderAnswers : List ℕ → Request
OrderAnswers words lent left r =
    (κs : Lfts 2) × (i o : Address) × Allows 2 OrderKinds.ps OrderKinds.r Order.Post κs (slice i words, (open_slice o lent, tt)) (tt, (left, tt)) r

-- what nocturenc_transition and nocturenc_assignments may do when asked for number k
abbrev pub TransitionAnswers : List ℕ → ℕ → Request
TransitionAnswers words k lent left r =
    (κs : Lfts 2) × (i o : Address)
    × Allows 2 TransitionKinds.ps TransitionKinds.r Transition.Post κs (slice i words, (k, (open_slice o lent, tt))) (tt, (tt, (left, tt))) r

abbrev pub AssignmentsAnswers : List ℕ → ℕ → Request
AssignmentsAnswers words k lent left r =
    (κs : Lfts 2) × (i o : Address)
    × Allows 2 AssignmentsKinds.ps AssignmentsKinds.r Assignments.Post κs (slice i words, (k, (open_slice o lent, tt))) (tt, (tt, (left, tt))) r

-- the contracts ask nothing of the caller
pub record AsksNothing : Type 0 where
  pub judge : (κs : Lfts 1) (a : Dens κs JudgeKinds.ps) → Judge.Pre κs a
  pub order : (κs : Lfts 2) (a : Dens κs OrderKinds.ps) → Order.Pre κs a
  pub transition : (κs : Lfts 2) (a : Dens κs TransitionKinds.ps) → Transition.Pre κs a
  pub assignments : (κs : Lfts 2) (a : Dens κs AssignmentsKinds.ps) → Assignments.Pre κs a

-- What C reads from an answer: the refusal number, 0 for an acceptance, and a refusal's place; of an acceptance by
-- nocturenc_judge V, N, S and the number of transitions. The others answer the number of words or bytes filled.
abbrev pub refusal_number : ℕ → ℕ
refusal_number r = r / 2 ^ 56

abbrev pub refusal_place : ℕ → ℕ
refusal_place r = r % 2 ^ 32

abbrev pub variable_count : ℕ → ℕ
variable_count r = r / 2 ^ 42

abbrev pub row_count : ℕ → ℕ
row_count r = r / 2 ^ 29 % 2 ^ 13

abbrev pub chosen_count : ℕ → ℕ
chosen_count r = r / 2 ^ 16 % 2 ^ 13

abbrev pub transition_count : ℕ → ℕ
transition_count r = r % 2 ^ 16
