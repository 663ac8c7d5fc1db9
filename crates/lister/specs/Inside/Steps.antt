-- What the lister's functions ask for and leave: a pen, lines, and the parts of a listing.
use Rattle.std.specs.Prelude.{ℕ, zero, suc, ◌+◌, ◌-◌, ◌*◌, cond, List, [], ◌++◌, ◌≡◌, ltb, length, Result, Ok, Err}
use Rattle.paper.specs.Limits.{most_bytes}
use Rattle.table.specs.declared.Layout.{Layout}
use Rattle.strategy.specs.declared.Accepted.{Accepted}
use Rattle.listing.specs.declared.Pen.{Pen}
use Rattle.listing.specs.Inside.Placed.{Puts}
use Rattle.lister.specs.Listing.{line_of, lines_from, first_of, transitions_of, lines_below}
use Rattle.paper.specs.declared.Refusal.{Refusal}

-- a pen that put nothing yet into a buffer as long as the longest input
abbrev pub Fresh : Pen → Type 0
Fresh pen = (pen.at ≡ 0) × (length pen.buf.now ≡ most_bytes)

-- no transition's line is longer
abbrev pub longest : Layout → ℕ
longest l = 23 + 6 * l.variables + 6 * l.rows

-- How many of the next `more` lines, from transition k on, are put behind `at` bytes where there is `room` for so many: one after another,
-- for as long as what is left is room for the longest.
unfoldable pub fitting : List ℕ → Layout → ℕ → ℕ → ℕ → ℕ → ℕ
fitting words l room at k zero = 0
fitting words l room at k (suc more) = cond (ltb (room - at) (longest l)) 0 (suc (fitting words l room (at + length (line_of words l k)) (suc k) more))

-- the lines of transitions from k on, as many as fit
abbrev pub many_lines : List ℕ → Accepted → ℕ → ℕ → ℕ
many_lines words a room k = fitting words a.layout room 0 k (a.transitions - k)

-- so many were put
pub record LinesPut (words : List ℕ) (a : Accepted) (k : ℕ) (before after : Pen) (count : ℕ) : Type 0 where
  pub many : count ≡ many_lines words a (length before.buf.now) k
  pub puts : Puts before (lines_from words a.layout k count) after

-- The listing in pieces: piece 0 is the first part, and piece k + 1 the line of transition k. How many there are, and those below n joined.
abbrev pub pieces : Result Accepted Refusal → ℕ
pieces j = transitions_of j + 1

abbrev pub pieces_below : List ℕ → Result Accepted Refusal → ℕ → List ℕ
pieces_below words j zero = []
pieces_below words j (suc k) = first_of words j ++ lines_below words j k

-- The part that begins with piece n, with so much room: how many pieces it has, and its bytes.
abbrev pub many_pieces : List ℕ → Result Accepted Refusal → ℕ → ℕ → ℕ
many_pieces words j room zero = 1
many_pieces words (Err r) room (suc k) = 0
many_pieces words (Ok a) room (suc k) = many_lines words a room k

abbrev pub part_of : List ℕ → Result Accepted Refusal → ℕ → ℕ → List ℕ
part_of words j room zero = first_of words j
part_of words (Err r) room (suc k) = []
part_of words (Ok a) room (suc k) = lines_from words a.layout k (many_lines words a room k)

-- it was put, and the piece after it is this one
pub record PartPut (words : List ℕ) (j : Result Accepted Refusal) (n : ℕ) (before after : Pen) (next : ℕ) : Type 0 where
  pub many : next ≡ n + many_pieces words j (length before.buf.now) n
  pub puts : Puts before (part_of words j (length before.buf.now) n) after
