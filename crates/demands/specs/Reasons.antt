-- A library function that refuses does so for a reason of document 01 ("Refusal numbers, in the order of checks"): none refuses by `Other`,
-- which stands for a number of no reason, and which only who asks `refusal_at` or `refusal_for` for it gets. It is said twice: of each
-- function's own contract as the prover reads it (proofs/ByReason.antt), and of the definitions that the contracts of those with a
-- `Result` cite, for whoever holds what a function promised (`Reasons`, proofs/Reasons.antt).
use Rattle.std.specs.Prelude.{ℕ, Bool, true, false, List, ◌≡◌, length, Result, Ok, Err}
use contract.Lifetimes.{Lfts}
use denote.Triple.Clauses.{Lasts, at_exit}
use borrow.Fn.Kinds.{ParamKind, ResultKind, In, Out, Dens, res_t, ended_of}
use Rattle.paper.specs.Lists.{all_of}
use Rattle.paper.specs.Refusals.{fault_number, fault_of, faults}
use Rattle.paper.specs.declared.Refusal.{Refusal}
use Rattle.paper.specs.declared.refusals.Fault.{Fault}
use Rattle.paper.specs.declared.refusals.Fault.TheVariants.{Other}
use Rattle.sections.specs.declared.Cursor.{Cursor}
use Rattle.sections.specs.Sections.{open_at, variables_at, reads_at, rows_at, strategy_at, end_at}
use Rattle.table.specs.declared.Layout.{Layout}
use Rattle.table.specs.Table.{checked}
use Rattle.reader.specs.Reading.{behind_rows}
use Rattle.filling.specs.declared.Length.{Length}
use Rattle.filling.specs.Filling.{Fills, unless_short}
use Rattle.strategy.specs.Judge.{judged_of}
use Rattle.input.specs.Bytes.{judged_bytes}
use Rattle.answers.specs.Requests.{judge_of, order_of, transition_of, assignments_of, transition_outcome, assignments_outcome}

abbrev pub is_reason : Fault → Bool
is_reason (Other number) = false
is_reason fault = true

abbrev pub ForReason : Refusal → Type 0
ForReason x = is_reason x.fault ≡ true

-- an acceptance, or a refusal for a reason
abbrev pub ByReason : {A : Type 0} → Result A Refusal → Type 0
ByReason (Ok a) = Unit {0}
ByReason (Err x) = ForReason x

-- whatever the contract allows as an answer is one that `By` holds of
module _ {n : ℕ} (ps : List (ParamKind n)) (r : ResultKind n) where
  abbrev pub Answers : ((κs : Lfts n) → (res_t r κs).Denot → Type 0) → In n ps → Out n ps r → Type 0
  Answers By Pre Post = (κs : Lfts n) (a : Dens κs ps) → Pre κs a
      → (x : (res_t r κs).Denot) (v : Lasts (ended_of n ps r) κs a) → Post κs a x (at_exit (ended_of n ps r) κs a v) → By κs x

pub record Reasons : Type 1 where
  -- which they are: the eighteen, each told by its number, and no other
  pub eighteen : all_of is_reason faults ≡ true
  pub told : (fault : Fault) → is_reason fault ≡ true → fault_of (fault_number fault) ≡ fault
  pub no_other : (number : ℕ) → is_reason (Other number) ≡ false
  -- the methods of `Cursor` (sections), `check` (table), `behind_rows` (reader)
  pub section : (part : List ℕ) (c : Cursor) (low high width : ℕ) → ByReason (open_at part c low high width)
  pub variables : (part : List ℕ) (c : Cursor) → ByReason (variables_at part c)
  pub reads : (part : List ℕ) (c : Cursor) → ByReason (reads_at part c)
  pub rows : (part reads : List ℕ) (c : Cursor) → ByReason (rows_at part reads c)
  pub strategy : (part : List ℕ) (c : Cursor) → ByReason (strategy_at part c)
  pub end : (present : ℕ) (c : Cursor) → ByReason (end_at present c)
  pub table : (words : List ℕ) → ByReason (checked words)
  pub reader : (words : List ℕ) → ByReason (behind_rows words)
  -- `judge` and `judge_into` (strategy), `judge_bytes` (input), `judge` (nocturenc)
  pub judgement : (words : List ℕ) → ByReason (judged_of words)
  pub of_bytes : (bytes : List ℕ) → ByReason (judged_bytes bytes)
  pub judge : (words : List ℕ) → ByReason (judge_of words)
  -- `fill` (filling), and what fills a lent slice: `order`, `transition`, `assignments` (nocturenc), the last two of a caller that has judged too
  -- (answers)
  pub fill : {T : Type 0} (from lent left : List T) (r : Result Length Refusal) → Fills (unless_short (length lent) from) lent left r → ByReason r
  pub order : (words lent left : List ℕ) (r : Result Length Refusal) → Fills (order_of words (length lent)) lent left r → ByReason r
  pub transition : (words : List ℕ) (k : ℕ) (lent left : List ℕ) (r : Result Length Refusal)
      → Fills (transition_of words k (length lent)) lent left r → ByReason r
  pub assignments : (words : List ℕ) (k : ℕ) (lent left : List ℕ) (r : Result Length Refusal)
      → Fills (assignments_of words k (length lent)) lent left r → ByReason r
  pub transition_judged : (words : List ℕ) (k : ℕ) (l : Layout) (count : ℕ) (lent left : List ℕ) (r : Result Length Refusal)
      → Fills (transition_outcome words k (length lent) l count) lent left r → ByReason r
  pub assignments_judged : (words : List ℕ) (k : ℕ) (l : Layout) (count : ℕ) (lent left : List ℕ) (r : Result Length Refusal)
      → Fills (assignments_outcome words k (length lent) l count) lent left r → ByReason r
