-- The judgement of a table's words (document 01, "Refusal numbers, in the order of checks"): refusals 1, 2, 4 to 9 and 3 as the
-- table's own checks find them, then 10 to 14 as document 001's judgement of the formula that the words write; or what is known
-- of an accepted table.
use Rattle.std.specs.Prelude.{ℕ, ◌≤◌, ◌≡◌, ◌↔◌, List, map, length, Result, Ok, Err}
use Rattle.paper.specs.Limits.{most_transitions}
use Rattle.paper.specs.declared.Label.{Label}
use Rattle.paper.specs.Formula.{ℓ, Formula}
use Rattle.paper.specs.Strategy.{Strategy, reported_order}
use Rattle.paper.specs.Transition.{keys}
use Rattle.paper.specs.Judgement.{judge}
use Rattle.table.specs.declared.Layout.{Layout}
use Rattle.table.specs.Table.{checked, chosen_in}
use Rattle.written.specs.Tables.{formula_in}
use Rattle.entries.specs.Front.{in_front}
use Rattle.strategy.specs.Verdict.{accepted_with, as_judged}
use Rattle.paper.specs.declared.Refusal.{Refusal}
use Rattle.strategy.specs.declared.Accepted.{Accepted}

-- the proposal that a strategy section makes
abbrev pub proposal_of : List ℕ → List Label
proposal_of chosen = map ℓ chosen

abbrev pub proposal_in : List ℕ → Layout → List Label
proposal_in words l = proposal_of (chosen_in words l)

abbrev pub judged_as : List ℕ → Result Layout Refusal → Result Accepted Refusal
judged_as words (Err r) = Err r
judged_as words (Ok l) = as_judged l (judge l.variables (formula_in words l) (proposal_in words l))

-- the answer to any words
unfoldable pub judged_of : List ℕ → Result Accepted Refusal
judged_of words = judged_as words (checked words)

-- the reported order of a formula with a proposal, as words; where there is no order, as far as it goes
abbrev pub words_of_order : Formula → List Label → List ℕ
words_of_order f A = map (λ l. l.0) (reported_order f A)

-- what an answer leaves in words lent for an order, which is that of the accepted layout: an acceptance the order in front of what was
-- there, a refusal what was there
abbrev pub left_by : Result Accepted Refusal → (Layout → List ℕ) → List ℕ → List ℕ
left_by (Ok a) order_of lent = in_front (order_of a.layout) lent
left_by (Err x) order_of lent = lent

-- the reported order of words laid out so
abbrev pub order_in : List ℕ → Layout → List ℕ
order_in words l = words_of_order (formula_in words l) (proposal_in words l)

-- what is left in words lent for the reported order
unfoldable pub order_left : List ℕ → List ℕ → List ℕ
order_left words lent = left_by (judged_of words) (order_in words) lent

-- the answer to any words, and what is left in the words lent for the order
pub record JudgedInto (words lent left : List ℕ) (r : Result Accepted Refusal) : Type 0 where
  pub answered : r ≡ judged_of words
  pub left_so : left ≡ order_left words lent

-- What an acceptance says: sound words, whose strategy section is an assignment strategy of their formula (document 001,
-- Definition 4), with t transitions, at most 65,535.
pub record AcceptedSo (words : List ℕ) (l : Layout) (t : ℕ) : Type 0 where
  pub sound : checked words ≡ Ok l
  pub strategy : Strategy l.variables (formula_in words l) (proposal_in words l)
  pub count : t ≡ length (keys (formula_in words l) (proposal_in words l))
  pub few : length (keys (formula_in words l) (proposal_in words l)) ≤ most_transitions

-- words are accepted exactly if it is so (proofs/Exactly.antt)
abbrev pub AcceptedExactly : List ℕ → Layout → ℕ → Type 0
AcceptedExactly words l t = (judged_of words ≡ accepted_with l t) ↔ AcceptedSo words l t
