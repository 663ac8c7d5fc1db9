-- Demand 1 (specs/Demands.antt): an answer is an acceptance or one refusal, by a number that the request gives; a refusal writes
-- nothing; and what the judgement refuses, every request refuses alike.
use Prim.Native.Nat.{ℕ, ◌≤◌}
use native.Mathlib.Omega.{arith}
use mathlib.Core.Path.{◌≡◌, refl, sym, subst, ◌∙◌}
use mathlib.Core.Logic.{inl, inr}
use mathlib.Core.List.{List}
use lib.ListN.{length}
use Rattle.paper.specs.declared.Refusal.{Refusal}
use Rattle.paper.specs.declared.refusals.Fault.{Fault}
use Rattle.paper.specs.Refusals.{fault_number}
use Rattle.table.specs.declared.Layout.{Layout}
use Rattle.strategy.specs.Judge.{judged_of, order_in}
use Rattle.filling.specs.Filling.{Outcome, refuses, fills}
use Rattle.answers.specs.Requests.{judge_of, judge_answer, kept_marks, assigned_of, outcome_of, of_transition, order_outcome}
use Rattle.nocturenc.specs.Packed.{ReadRefusal, AnswerPacked, FillsPacked, packed_answer, packed_filled}
use Rattle.demands.specs.Allowed.{Request, OrderAnswers, TransitionAnswers, AssignmentsAnswers, refusal_number}
use Rattle.demands.specs.Demands.{JudgeGives, OrderGives, TransitionGives, IsAnswer, Answered, Demand1}
use Rattle.demands.proofs.Contracts.{judge-allows, order-allows, transition-allows, assignments-allow, asks_nothing}
use Rattle.demands.proofs.RefusalNumbers.{AnswerGives, judged-gives}
use Rattle.demands.proofs.Outcomes.{RefusesBy, judged-by, short-by, transition-by}
use Rattle.std.specs.Prelude.{Result, Ok, Err}
use Rattle.strategy.specs.declared.Accepted.{Accepted}

-- a refusal that C reads
is-refusal : (Gives : ℕ → Type 0) (x : Refusal) (r : ℕ) → ReadRefusal x r → Gives (fault_number x.fault) → IsAnswer Gives r
is-refusal Gives x r read g = inr (subst Gives (sym read.number_is) g, let h = read.between in omega arith)

judge-is-answer : (words : List ℕ) (r : ℕ) → AnswerPacked (judge_of words) r → IsAnswer JudgeGives r
unfolding judge_of
judge-is-answer words r p = go (judged_of words) (judged-gives words) p
  where
    go : (j : Result Accepted Refusal) → AnswerGives j → AnswerPacked (judge_answer j) r → IsAnswer JudgeGives r
    go (Ok a) g p = inl p.read_so.no_refusal
    go (Err x) g p = is-refusal JudgeGives x r p.read_so g.0

-- a reason with a number that the request gives
abbrev Numbered : (ℕ → Type 0) → Fault → Type 0
Numbered Gives fault = Gives (fault_number fault)

module _ {lent left : List ℕ} {r : ℕ} where
  fill-is-answer : (Gives : ℕ → Type 0) (o : Outcome ℕ) → RefusesBy (Numbered Gives) o → FillsPacked o lent left r → IsAnswer Gives r
  fill-is-answer Gives (refuses x) g f = is-refusal Gives x r f.read_so g
  fill-is-answer Gives (fills ws) g f = inl f.read_so.no_refusal

  nothing_written : (o : Outcome ℕ) → FillsPacked o lent left r → 1 ≤ refusal_number r → left ≡ lent
  nothing_written (refuses x) f h = f.left_so
  nothing_written (fills ws) f h = let z = f.read_so.no_refusal in absurd (omega arith)

  refused-first : (words : List ℕ) (j : ℕ) → AnswerPacked (judge_of words) j → 1 ≤ refusal_number j → (next : Layout → ℕ → Outcome ℕ)
      → FillsPacked (outcome_of (judged_of words) next) lent left r → r ≡ j
  unfolding judge_of outcome_of packed_answer packed_filled
  refused-first words j p h next f = go (judged_of words) p f
    where
      go : (v : Result Accepted Refusal) → AnswerPacked (judge_answer v) j → FillsPacked (outcome_of v next) lent left r → r ≡ j
      go (Ok a) p f = let z = p.read_so.no_refusal in absurd (omega arith)
      go (Err x) p f = f.answered ∙ sym p.answered

module _ (words : List ℕ) (Gives : ℕ → Type 0) (more : (n : ℕ) → JudgeGives n → Gives n) where
  judged : (next : Layout → ℕ → Outcome ℕ) → ((l : Layout) (count : ℕ) → RefusesBy (Numbered Gives) (next l count))
      → RefusesBy (Numbered Gives) (outcome_of (judged_of words) next)
  judged = judged-by (Numbered Gives) (λ fault g. more (fault_number fault) g.0) words

  -- a request whose outcome is the judgement's refusal, or what follows it
  answered : (next : ℕ → Layout → ℕ → Outcome ℕ) → ((room : ℕ) (l : Layout) (count : ℕ) → RefusesBy (Numbered Gives) (next room l count))
      → (request : Request)
      → ((lent left : List ℕ) (r : ℕ) → request lent left r → FillsPacked (outcome_of (judged_of words) (next (length lent))) lent left r)
      → Answered words Gives request
  answered next after request allows = record {
    is_answer = λ lent left r q. fill-is-answer Gives _ (judged (next (length lent)) (after (length lent))) (allows lent left r q);
    refusal_writes_nothing = λ lent left r q. nothing_written _ (allows lent left r q);
    judged_first = λ j p h lent left r q. refused-first words j (judge-allows words p) h (next (length lent)) (allows lent left r q);
  }

transition-gives : (what : List ℕ → Layout → ℕ → List ℕ) (words : List ℕ) (k room : ℕ) (l : Layout) (count : ℕ)
    → RefusesBy (Numbered TransitionGives) (of_transition what words k room l count)
transition-gives = transition-by (Numbered TransitionGives) (inr (inr (inr refl))) (inr (inl refl)) (inr (inr (inl refl)))

pub demand-1 : Demand1
demand-1 = record {
  asks_nothing = asks_nothing;
  judge = λ words r p. judge-is-answer words r (judge-allows words p);
  order = λ words. answered words OrderGives (λ n g. inl g) (order_outcome words)
      (λ room l count. short-by (Numbered OrderGives) (inr refl) room (order_in words l))
      (OrderAnswers words) (λ lent left r q. order-allows words q);
  transition = λ words k. answered words TransitionGives (λ n g. inl g) (of_transition kept_marks words k) (transition-gives kept_marks words k)
      (TransitionAnswers words k) (λ lent left r q. transition-allows words k q);
  assignments = λ words k. answered words TransitionGives (λ n g. inl g) (of_transition assigned_of words k) (transition-gives assigned_of words k)
      (AssignmentsAnswers words k) (λ lent left r q. assignments-allow words k q);
}
