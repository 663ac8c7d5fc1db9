-- The definitions that contracts cite refuse for a reason (specs/Reasons.antt): each refusal is made with a reason's name, or handed on.
use Prim.Native.Nat.{ℕ, ◌/◌}
use mathlib.Core.Path.{◌≡◌, refl, sym, subst}
use mathlib.Core.Bool.{Bool, true, false, cond, false≢true}
use mathlib.Core.List.{List}
use lib.ListN.{length}
use Rattle.std.specs.Prelude.{Result, Ok, Err}
use Rattle.paper.specs.declared.Refusal.{Refusal}
use Rattle.paper.specs.declared.refusals.Fault.{Fault}
use Rattle.paper.specs.declared.refusals.Fault.TheVariants.{Absent, CountOutOfRange, NameNotAbove, ReadBeyond, RowBroken, ReadsLeft, TooDeep, EntryUnfit}
use Rattle.paper.specs.declared.refusals.Fault.TheVariants.{WordsFollow, NoCandidate, VariableMissed, VariableTwice, NoOrder, TooMany, NoSuchTransition, Uneven}
use Rattle.paper.specs.declared.refusals.Fault.TheVariants.{OutTooShort, OddBytes, Other}
use Rattle.paper.specs.Refusals.{fault_number, fault_of}
use Rattle.paper.specs.Limits.{most_reads, most_rows, most_variables}
use Rattle.sections.specs.declared.Cursor.{Cursor}
use Rattle.sections.specs.Sections.{start, open_at}
use Rattle.table.specs.declared.Layout.{Layout}
use Rattle.table.specs.Table.{part_at, sections, as_checked, checked}
use Rattle.reader.specs.Reading.{behind_rows}
use Rattle.filling.specs.declared.Length.{Length}
use Rattle.filling.specs.Filling.{Outcome, refuses, fills, Fills, filled_of, unless_short}
use Rattle.strategy.specs.declared.Accepted.{Accepted}
use Rattle.strategy.specs.Verdict.{refused_at}
use Rattle.strategy.specs.Judge.{judged_of, order_in}
use Rattle.input.specs.Bytes.{are_odd, judged_bytes, words_of}
use Rattle.answers.specs.Requests.{judge_of, judge_answer, kept_marks, assigned_of, outcome_of, of_transition, order_outcome}
use Rattle.demands.specs.Reasons.{is_reason, ByReason, Reasons}
use Rattle.demands.proofs.RefusalNumbers.{StepGives, AnswerGives, gives_then, open_gives, variables-give, reads-give, rows-give, strategy-gives, end-gives}
use Rattle.demands.proofs.RefusalNumbers.{sections-give, judged-gives}
use Rattle.demands.proofs.Outcomes.{RefusesBy, judged-by, short-by, transition-by}

step : (s : Result Cursor Refusal) → StepGives s → ByReason s
step (Ok c) g = tt
step (Err x) g = g.1

table : (words : List ℕ) → ByReason (checked words)
unfolding checked
table words = go (sections words) (sections-give words)
  where
    go : (s : Result Cursor Refusal) → StepGives s → ByReason (as_checked s)
    go (Ok c) g = tt
    go (Err x) g = g.1

reader : (words : List ℕ) → ByReason (behind_rows words)
unfolding behind_rows
reader words =
    step _ (gives_then (open_at words start 1 most_variables 1) _ (open_gives words start 1 most_variables 1)
    (λ a. gives_then (open_at (part_at words a) a 0 most_reads 1) _ (open_gives (part_at words a) a 0 most_reads 1)
    (λ b. open_gives (part_at words b) b 1 most_rows 4)))

answer : (j : Result Accepted Refusal) → AnswerGives j → ByReason j
answer (Ok a) g = tt
answer (Err x) g = g.1

judgement : (words : List ℕ) → ByReason (judged_of words)
judgement words = answer (judged_of words) (judged-gives words)

of_bytes : (bytes : List ℕ) → ByReason (judged_bytes bytes)
unfolding judged_bytes
of_bytes bytes = go (are_odd bytes)
  where
    go : (b : Bool) → ByReason (cond b (refused_at OddBytes (length bytes / 2)) (judged_of (words_of bytes)))
    go true = refl
    go false = judgement (words_of bytes)

judge : (words : List ℕ) → ByReason (judge_of words)
unfolding judge_of
judge words = go (judged_of words) (judgement words)
  where
    go : (j : Result Accepted Refusal) → ByReason j → ByReason (judge_answer j)
    go (Ok a) g = tt
    go (Err x) g = g

abbrev IsReason : Fault → Type 0
IsReason fault = is_reason fault ≡ true

filled : {T : Type 0} (o : Outcome T) → RefusesBy IsReason o → {lent left : List T} {r : Result Length Refusal} → Fills o lent left r → ByReason r
filled o g f = subst ByReason (sym f.answered) (go o g)
  where
    go : {T : Type 0} (o : Outcome T) → RefusesBy IsReason o → ByReason (filled_of o)
    go (refuses x) g = g
    go (fills ws) g = tt

judged : (words : List ℕ) (next : Layout → ℕ → Outcome ℕ) → ((l : Layout) (count : ℕ) → RefusesBy IsReason (next l count))
    → RefusesBy IsReason (outcome_of (judged_of words) next)
judged = judged-by IsReason (λ fault g. g.1)

short : {T : Type 0} (room : ℕ) (ws : List T) → RefusesBy IsReason (unless_short room ws)
short = short-by IsReason refl

numbered : (what : List ℕ → Layout → ℕ → List ℕ) (words : List ℕ) (k room : ℕ) (l : Layout) (count : ℕ)
    → RefusesBy IsReason (of_transition what words k room l count)
numbered = transition-by IsReason refl refl refl

told : (fault : Fault) → is_reason fault ≡ true → fault_of (fault_number fault) ≡ fault
told (Other number) e = absurd (false≢true e)
told Absent e = refl
told CountOutOfRange e = refl
told NameNotAbove e = refl
told ReadBeyond e = refl
told RowBroken e = refl
told ReadsLeft e = refl
told TooDeep e = refl
told EntryUnfit e = refl
told WordsFollow e = refl
told NoCandidate e = refl
told VariableMissed e = refl
told VariableTwice e = refl
told NoOrder e = refl
told TooMany e = refl
told NoSuchTransition e = refl
told Uneven e = refl
told OutTooShort e = refl
told OddBytes e = refl

pub reasons : Reasons
reasons = record {
  eighteen = refl;
  told = told;
  no_other = λ number. refl;
  section = λ part c low high width. step _ (open_gives part c low high width);
  variables = λ part c. step _ (variables-give part c);
  reads = λ part c. step _ (reads-give part c);
  rows = λ part reads c. step _ (rows-give part reads c);
  strategy = λ part c. step _ (strategy-gives part c);
  end = λ present c. step _ (end-gives present c);
  table = table;
  reader = reader;
  judgement = judgement;
  of_bytes = of_bytes;
  judge = judge;
  fill = λ from lent left r f. filled _ (short (length lent) from) f;
  order = λ words lent left r f.
      filled _ (judged words (order_outcome words (length lent)) (λ l count. short (length lent) (order_in words l))) f;
  transition = λ words k lent left r f. filled _ (judged words _ (numbered kept_marks words k (length lent))) f;
  assignments = λ words k lent left r f. filled _ (judged words _ (numbered assigned_of words k (length lent))) f;
  transition_judged = λ words k l count lent left r f. filled _ (numbered kept_marks words k (length lent) l count) f;
  assignments_judged = λ words k l count lent left r f. filled _ (numbered assigned_of words k (length lent) l count) f;
}
