-- What the lister prints for the bytes that it read (document 01, "A listing, whole", and refusal 17): the lines of crate listing,
-- filled with what the judgement and the requests answer.
use Rattle.std.specs.Prelude.{ℕ, zero, suc, List, [], ◌++◌, map, Result, Ok, Err}
use Rattle.paper.specs.Transition.{kept_labels}
use Rattle.table.specs.declared.Layout.{Layout}
use Rattle.written.specs.Tables.{formula_in}
use Rattle.strategy.specs.declared.Accepted.{Accepted}
use Rattle.strategy.specs.Judge.{order_in, proposal_in}
use Rattle.input.specs.Bytes.{words_of, judged_bytes}
use Rattle.answers.specs.Requests.{key_of, assigned_of}
use Rattle.listing.specs.Text.{accepted_line, order_line, transition_line, refused_line}
use Rattle.paper.specs.declared.Refusal.{Refusal}
use Rattle.paper.specs.Refusals.{fault_number}

-- the first line, V, N, S and the transitions; then the order
abbrev pub head_of : Accepted → List ℕ → List ℕ
head_of a order = accepted_line a.layout.variables a.layout.rows a.layout.chosen a.transitions ++ order_line order

module _ (words : List ℕ) (l : Layout) where
  -- the line of transition k: its number, its chosen labels in reported order, its kept labels ascending
  unfoldable pub line_of : ℕ → List ℕ
  line_of k = transition_line k (assigned_of words l k) (map (λ i. i.0) (kept_labels (formula_in words l) (proposal_in words l) (key_of words l k)))

  -- the lines of so many transitions, from number k on
  unfoldable pub lines_from : ℕ → ℕ → List ℕ
  lines_from k zero = []
  lines_from k (suc more) = line_of k ++ lines_from (suc k) more

-- the first part: one line of a refusal, or the first two lines of an acceptance
abbrev pub first_of : List ℕ → Result Accepted Refusal → List ℕ
first_of words (Err r) = refused_line (fault_number r.fault) r.place
first_of words (Ok a) = head_of a (order_in words a.layout)

-- the rest: of an acceptance a line for each transition
abbrev pub transitions_of : Result Accepted Refusal → ℕ
transitions_of (Err r) = 0
transitions_of (Ok a) = a.transitions

abbrev pub lines_below : List ℕ → Result Accepted Refusal → ℕ → List ℕ
lines_below words (Err r) k = []
lines_below words (Ok a) k = lines_from words a.layout 0 k

-- the whole listing
abbrev pub listing_of : List ℕ → List ℕ
listing_of bytes =
    first_of (words_of bytes) (judged_bytes bytes) ++ lines_below (words_of bytes) (judged_bytes bytes) (transitions_of (judged_bytes bytes))
