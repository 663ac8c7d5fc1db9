-- What is known of an accepted table, and what the requests of a caller that has judged ask and leave.
use Rattle.std.specs.Prelude.{ℕ, ◌≤◌, ◌<◌, List, ◌≡◌, length, take, Result, Ok, Err}
use Rattle.paper.specs.Limits.{most_chosen, most_depth, most_rows, most_transitions, most_variables}
use Rattle.entries.specs.Front.{in_front}
use Rattle.table.specs.declared.Layout.{Layout}
use Rattle.table.specs.Table.{rows_in}
use Rattle.marks.specs.Inside.Chosen.{Marked, MarkedExactly}
use Rattle.keys.specs.declared.Distinct.{Distinct}
use Rattle.keys.specs.Inside.Keys.{keys_at}
use Rattle.strategy.specs.declared.Accepted.{Accepted}
use Rattle.strategy.specs.Judge.{judged_of, order_in, proposal_in}
use Rattle.answers.specs.declared.Counts.{Counts}
use Rattle.answers.specs.Requests.{reported, key_of, kept_marks, assigned_of}
use Rattle.filling.specs.declared.Length.{Length}
use Rattle.paper.specs.declared.Refusal.{Refusal}

-- the bounds of an accepted table's counts
pub record FitCounts (c : Counts) : Type 0 where
  pub variables_fit : c.variables ≤ most_variables
  pub rows_fit : c.rows ≤ most_rows
  pub chosen_fit : c.chosen ≤ most_chosen
  pub transitions_fit : c.transitions ≤ most_transitions

-- the bound of what a request fills: S words, N bytes or V words
abbrev pub FitFilled : Result Length Refusal → Type 0
FitFilled (Ok l) = l.count ≤ most_rows
FitFilled (Err r) = Unit {0}

-- What an accepted table's requests fill: S words, N bytes, V words. Each of its transitions has V chosen labels, so 18 is never met.
pub record Amounts (words : List ℕ) (a : Accepted) : Type 0 where
  pub order_is : length (reported words a.layout) ≡ a.layout.chosen
  pub transition_is : (k : ℕ) → length (kept_marks words a.layout k) ≡ a.layout.rows
  pub assignments_are : (k : ℕ) → k < a.transitions → length (assigned_of words a.layout k) ≡ a.layout.variables
  pub each_whole : (k : ℕ) → k < a.transitions → length (key_of words a.layout k) ≡ a.layout.variables

-- For a caller that has judged: the words are accepted so; the order stands at the front of some words.
abbrev pub AcceptedAs : List ℕ → Accepted → Type 0
AcceptedAs words a = judged_of words ≡ Ok a

pub record Ordered (words : List ℕ) (a : Accepted) (order : List ℕ) : Type 0 where
  pub accepted : AcceptedAs words a
  pub is_in_front : take a.layout.chosen order ≡ order_in words a.layout

-- What the transitions of words laid out so are worked out from: the marks of the chosen labels, and the keys of the formula. The marks
-- that are made are 0 or 1.
pub record Based (words : List ℕ) (l : Layout) (marks : List ℕ) (own : Distinct) : Type 0 where
  pub marked : Marked (proposal_in words l) marks
  pub own_are : own ≡ keys_at (rows_in words l) marks most_depth 0

pub record BasedExactly (words : List ℕ) (l : Layout) (marks : List ℕ) (own : Distinct) : Type 0 where
  pub marked : MarkedExactly (proposal_in words l) marks
  pub own_are : own ≡ keys_at (rows_in words l) marks most_depth 0

-- the bytes of transition k and its chosen labels in reported order stand in front of what was there, and how many these are
pub record Assigned (words : List ℕ) (l : Layout) (k : ℕ) (kept kept' labels labels' : List ℕ) (chosen : ℕ) : Type 0 where
  pub bytes : kept' ≡ in_front (kept_marks words l k) kept
  pub in_order : labels' ≡ in_front (assigned_of words l k) labels
  pub many : chosen ≡ length (assigned_of words l k)

-- the bytes of transition k stand in front of what was there, and how many chosen labels it keeps
pub record Kept (words : List ℕ) (l : Layout) (k : ℕ) (lent left : List ℕ) (chosen : ℕ) : Type 0 where
  pub bytes : left ≡ in_front (kept_marks words l k) lent
  pub many : chosen ≡ length (key_of words l k)
