-- Document 01's listing is the value of the definitions, at the bytes of the table that stands above it ("A listing, whole"); and so
-- are the lines of a refusal for no bytes ("No words: 1 at 0") and for one byte (refusal 17), and a listing in which what is assigned
-- does not ascend as what is kept does.
use Prim.Native.Nat.{ℕ, ◌/◌, ◌%◌}
use mathlib.Core.Path.{◌≡◌, refl}
use mathlib.Core.List.{List, [], ◌∷◌}
use Rattle.entries.specs.First.{first}
use Rattle.rows.specs.Rows.{form_of, meets, taken_before, false_rule, star_rule, candidate_rule, join_rule, bound_rule, ends_within, keeps_rules, round_of}
use Rattle.entries.specs.Entries.{ascend}
use Rattle.sections.specs.Sections.{open_at, variables_at, reads_at, rows_at, strategy_at, end_at}
use Rattle.table.specs.Table.{sections, checked}
use Rattle.rows.specs.Formula.{star_at, children_at, node_at, formula_at}
use Rattle.strategy.specs.Judge.{judged_of}
use Rattle.listing.specs.Text.{ascii, digits, decimal, fields, accepted_line, order_line, transition_line, refused_line}
use Rattle.input.specs.Bytes.{words_of, judged_bytes}
use Rattle.input.specs.Example.{bytes_of_p}
use Rattle.lister.specs.Listing.{line_of, lines_from, listing_of}

pub listings : (listing_of bytes_of_p ≡ ascii "accepted 2 8 3 2\norder 1 4 6\n0 assign 1 4 keep 1 4\n1 assign 1 6 keep 1 6\n")
    × (listing_of [] ≡ ascii "refused 1 0\n") × (listing_of (2 ∷ []) ≡ ascii "refused 17 0\n")
unfolding first form_of meets ascend taken_before false_rule star_rule candidate_rule join_rule bound_rule ends_within keeps_rules round_of
    open_at variables_at reads_at rows_at strategy_at end_at sections checked star_at children_at node_at formula_at judged_of
    digits decimal fields accepted_line order_line transition_line refused_line words_of judged_bytes line_of lines_from
listings = (refl, refl, refl)

-- words as bytes, low byte first
abbrev bytes_of : List ℕ → List ℕ
bytes_of [] = []
bytes_of (w ∷ ws) = w % 256 ∷ w / 256 ∷ bytes_of ws

-- (x' in s(y) and y' in s) or (x' in s and y' in s(x)), all chosen: assignments are in reported order, kept labels ascend
pub assigned-and-kept :
    listing_of (bytes_of (2 ∷ 40 ∷ 300 ∷ 2 ∷ 1 ∷ 0 ∷ 11 ∷ 4 ∷ 2 ∷ 11 ∷ 0 ∷ 3 ∷ 2 ∷ 6 ∷ 0 ∷ 2 ∷ 0 ∷ 4 ∷ 0 ∷ 1 ∷ 1 ∷ 4 ∷ 0 ∷ 2 ∷ 1 ∷ 6 ∷ 1 ∷ 1 ∷ 0 ∷ 6 ∷ 1
    ∷ 3 ∷ 2 ∷ 11 ∷ 1 ∷ 2 ∷ 0 ∷ 9 ∷ 1 ∷ 1 ∷ 0 ∷ 9 ∷ 1 ∷ 2 ∷ 1 ∷ 11 ∷ 1 ∷ 1 ∷ 1 ∷ 11 ∷ 1 ∷ 4 ∷ 2 ∷ 4 ∷ 7 ∷ 9 ∷ []))
    ≡ ascii "accepted 2 11 4 2\norder 4 2 7 9\n0 assign 4 2 keep 2 4\n1 assign 7 9 keep 7 9\n"
unfolding first form_of meets ascend taken_before false_rule star_rule candidate_rule join_rule bound_rule ends_within keeps_rules round_of
    open_at variables_at reads_at rows_at strategy_at end_at sections checked star_at children_at node_at formula_at judged_of
    digits decimal fields accepted_line order_line transition_line refused_line words_of judged_bytes line_of lines_from
assigned-and-kept = refl
