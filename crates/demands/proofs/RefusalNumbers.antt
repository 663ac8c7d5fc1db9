-- Which refusals the judgement gives: a table's own checks refuse by 1 to 9, the checks of the proposal by 10 to 14, each for a reason and
-- not for a number of none.
use Prim.Native.Nat.{ℕ, ◌-◌, ◌*◌}
use mathlib.Core.Path.{◌≡◌, refl, subst}
use mathlib.Core.Bool.{Bool, true, false, cond, ◌||◌}
use mathlib.Core.List.{List, [], ◌∷◌, map}
use lib.Dec.{ltb, eqb}
use lib.ListN.{length, get_or, drop}
use Rattle.paper.specs.declared.Refusal.{Refusal}
use Rattle.paper.specs.declared.refusals.Fault.TheVariants.{NoCandidate, NoOrder, TooMany, VariableMissed, VariableTwice, Absent, CountOutOfRange, EntryUnfit}
use Rattle.paper.specs.declared.refusals.Fault.TheVariants.{NameNotAbove, ReadBeyond, ReadsLeft, RowBroken, TooDeep, WordsFollow}
use Rattle.paper.specs.declared.refusals.Fault.{Fault}
use Rattle.paper.specs.Refusals.{refusal, fault_number}
use Rattle.paper.specs.declared.Label.{Label}
use Rattle.paper.specs.Formula.{Formula, labels}
use Rattle.paper.specs.Limits.{most_transitions, most_chosen, most_reads, most_rows, most_variables}
use Rattle.paper.specs.Judgement.{Judgement, accepted, refused, refuse, strangers, missed, doubled, on_cycles, judge}
use Rattle.paper.specs.Transition.{keys}
use Rattle.entries.specs.First.{first}
use Rattle.entries.specs.Entries.{falls, beyond}
use Rattle.rows.specs.Rows.{breaks_rules, taken_before, is_deep}
use Rattle.sections.specs.declared.Cursor.{Cursor}
use Rattle.sections.specs.Sections.{halt, and_then, start, open_at, variables_at, reads_at, rows_at, strategy_at, end_at}
use Rattle.table.specs.declared.Layout.{Layout}
use Rattle.table.specs.Table.{part_at, reads_of, sections, layout, as_checked, checked}
use Rattle.written.specs.Tables.{formula_in}
use Rattle.strategy.specs.Verdict.{as_judged}
use Rattle.strategy.specs.Judge.{proposal_in, judged_of, judged_as}
use Rattle.demands.specs.Demands.{JudgeGives}
use Rattle.demands.specs.Reasons.{is_reason}
use Rattle.std.specs.Prelude.{Result, Ok, Err}
use Rattle.strategy.specs.declared.Accepted.{Accepted}

-- a reason with a number that the judgement gives
abbrev pub JudgesBy : Fault → Type 0
JudgesBy fault = JudgeGives (fault_number fault) × (is_reason fault ≡ true)

-- a step that goes on, or halts for such a reason
abbrev pub StepGives : Result Cursor Refusal → Type 0
StepGives (Ok c) = Unit {0}
StepGives (Err x) = JudgesBy x.fault

pub gives_then : (s : Result Cursor Refusal) (next : Cursor → Result Cursor Refusal) → StepGives s → ((c : Cursor) → StepGives (next c))
    → StepGives (and_then s next)
gives_then (Err x) next g h = g
gives_then (Ok c) next g h = h c

gives-or : (b : Bool) (x y : Result Cursor Refusal) → StepGives x → StepGives y → StepGives (cond b x y)
gives-or true x y g h = g
gives-or false x y g h = h

-- a check that halts for this reason, and then what follows
check : (b : Bool) (fault : Fault) (place : ℕ) (next : Result Cursor Refusal) → JudgesBy fault → StepGives next
    → StepGives (cond b (halt fault place) next)
check b fault place next g h = gives-or b (halt fault place) next g h

pub open_gives : (part : List ℕ) (c : Cursor) (low high width : ℕ) → StepGives (open_at part c low high width)
unfolding open_at
open_gives part c low high width =
    check (eqb (length part) 0) Absent _ _ (refl, refl)
    (check (ltb (get_or part 0 0) low || ltb high (get_or part 0 0)) CountOutOfRange _ _ (refl, refl)
    (check (ltb (length part - 1) (get_or part 0 0 * width)) Absent _ _ (refl, refl) tt))

pub variables-give : (part : List ℕ) (c : Cursor) → StepGives (variables_at part c)
unfolding variables_at
variables-give part c = gives_then (open_at part c 1 most_variables 1) _ (open_gives part c 1 most_variables 1) (λ d.
    check (ltb (first (falls (drop 1 part)) d.count) d.count) NameNotAbove _ _ (refl, refl) tt)

pub reads-give : (part : List ℕ) (c : Cursor) → StepGives (reads_at part c)
unfolding reads_at
reads-give part c = gives_then (open_at part c 0 most_reads 1) _ (open_gives part c 0 most_reads 1) (λ d.
    check (ltb (first (beyond (drop 1 part) c.variables) d.count) d.count) ReadBeyond _ _ (refl, refl) tt)

pub rows-give : (part reads : List ℕ) (c : Cursor) → StepGives (rows_at part reads c)
unfolding rows_at
rows-give part reads c = gives_then (open_at part c 1 most_rows 4) _ (open_gives part c 1 most_rows 4) (λ d.
    check (ltb (first (breaks_rules (drop 1 part) reads c.variables d.count) d.count) d.count) RowBroken _ _ (refl, refl)
    (check (ltb (taken_before (drop 1 part) d.count) c.reads) ReadsLeft _ _ (refl, refl)
    (check (ltb (first (is_deep (drop 1 part)) d.count) d.count) TooDeep _ _ (refl, refl) tt)))

pub strategy-gives : (part : List ℕ) (c : Cursor) → StepGives (strategy_at part c)
unfolding strategy_at
strategy-gives part c = gives_then (open_at part c 0 most_chosen 1) _ (open_gives part c 0 most_chosen 1) (λ d.
    check (ltb (first (λ k. beyond (drop 1 part) c.rows k || falls (drop 1 part) k) d.count) d.count) EntryUnfit _ _ (refl, refl) tt)

pub end-gives : (present : ℕ) (c : Cursor) → StepGives (end_at present c)
unfolding end_at
end-gives present c = check (ltb c.at present) WordsFollow _ _ (refl, refl) tt

pub sections-give : (words : List ℕ) → StepGives (sections words)
unfolding sections
sections-give words =
    gives_then (variables_at words start) _ (variables-give words start)
    (λ a. gives_then (reads_at (part_at words a) a) _ (reads-give (part_at words a) a)
    (λ b. gives_then (rows_at (part_at words b) (reads_of words b) b) _ (rows-give (part_at words b) (reads_of words b) b)
    (λ c. gives_then (strategy_at (part_at words c) c) _ (strategy-gives (part_at words c) c)
    (λ d. end-gives (length words) d))))

-- a judgement that accepts, or refuses for such a reason
abbrev JudgementGives : Judgement → Type 0
JudgementGives (accepted v n s t) = Unit {0}
JudgementGives (refused x) = JudgesBy x.fault

refuse-gives : (fault : Fault) (places : List ℕ) (next : Judgement) → JudgesBy fault → JudgementGives next
    → JudgementGives (refuse fault places next)
refuse-gives fault [] next g h = h
refuse-gives fault (place ∷ others) next g h = g

judge-gives : (#V : ℕ) (f : Formula) (A : List Label) → JudgementGives (judge #V f A)
judge-gives #V f A =
    refuse-gives NoCandidate (map (λ l. l.0) (strangers f A)) _ (refl, refl)
    (refuse-gives VariableMissed (map (λ v. v.0) (missed #V f A)) _ (refl, refl)
    (refuse-gives VariableTwice (map (λ v. v.0) (doubled #V f A)) _ (refl, refl)
    (refuse-gives NoOrder (map (λ l. l.0) (on_cycles f A)) _ (refl, refl) (last (ltb most_transitions (length (keys f A)))))))
  where
    last : (b : Bool) → JudgementGives (cond b (refused (refusal TooMany 0)) (accepted #V (length (labels f)) (length A) (length (keys f A))))
    last true = (refl, refl)
    last false = tt

-- an answer to words
abbrev pub AnswerGives : Result Accepted Refusal → Type 0
AnswerGives (Ok a) = Unit {0}
AnswerGives (Err x) = JudgesBy x.fault

answers-give : (l : Layout) (j : Judgement) → JudgementGives j → AnswerGives (as_judged l j)
answers-give l (accepted v n s t) g = tt
answers-give l (refused x) g = g

pub judged-gives : (words : List ℕ) → AnswerGives (judged_of words)
unfolding judged_of checked
judged-gives words = go (sections words) (sections-give words)
  where
    go : (s : Result Cursor Refusal) → StepGives s → AnswerGives (judged_as words (as_checked s))
    go (Err x) g = g
    go (Ok c) g =
        let l = layout c.variables c.reads c.rows c.count in
        answers-give l (judge l.variables (formula_in words l) (proposal_in words l)) (judge-gives l.variables (formula_in words l) (proposal_in words l))

pub refused-number : (words : List ℕ) (x : Refusal) → judged_of words ≡ Err x → JudgesBy x.fault
refused-number words x e = subst AnswerGives e (judged-gives words)
