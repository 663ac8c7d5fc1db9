-- The rows are the part of the words before the cursor behind them, and a label below N has its four words there.
use Prim.Native.Nat.{ℕ, ◌+◌, ◌-◌, ◌*◌, ◌<◌, ◌≤◌}
use native.Mathlib.Omega.{arith}
use mathlib.Core.List.{List}
use mathlib.Core.Path.{◌≡◌, sym, ◌∙◌}
use borrow.Author.Tests.{lt-ltb, le-ltb}
use lib.ListN.{length, take, length-drop}
use Rattle.sections.specs.declared.Cursor.{Cursor}
use Rattle.rows.proofs.Rules.{rest}
use Rattle.reader.specs.Reading.{behind_rows, row_at, rows_before}
use Rattle.reader.proofs.Behind.{RowsThere, rows_there}
use Rattle.reader.proofs.plain.row_at.Goals as goal
use Rattle.std.specs.Prelude.{Result, Ok}
use Rattle.paper.specs.declared.Refusal.{Refusal}

-- the rows of a cursor that was found
there : {words : List ℕ} {d : Cursor} {s : Result Cursor Refusal} → s ≡ behind_rows words → s ≡ Ok d → RowsThere words d
there {words} {d} came is = rows_there words d (sym came ∙ is)

-- the four words of a label below N are in the lent part
four : {words : List ℕ} {d : Cursor} → RowsThere words d → (i : ℕ) → i < d.count
    → 4 * i + 4 ≤ length (take (length words - (d.at - 4 * d.count)) (rows_before words d))
four t i h = rw (rest, length-drop) (omega arith)

pub returns-in_default : goal.returns-in_default
unfolding row_at
returns-in_default c = simp (← c.behind_rows.ensures, c.in_default.is)

pub returns-then-n-label : goal.returns-then-n-label
unfolding row_at
returns-then-n-label c = rw (sym c.behind_rows.ensures ∙ c.in-Ok.is) (simp (le-ltb c.args.label c.in-Ok.c.count (omega arith)))

pub overflow_mul-first : goal.overflow_mul-first
overflow_mul-first c = let t = there c.behind_rows.ensures c.in-Ok.is in omega arith

pub overflow_sub-first : goal.overflow_sub-first
overflow_sub-first c = let t = there c.behind_rows.ensures c.in-Ok.is in omega arith

pub offset_bounds-words-first : goal.offset_bounds-words-first
offset_bounds-words-first c = let t = there c.behind_rows.ensures c.in-Ok.is in omega arith

pub slice_bounds-rows-count : goal.slice_bounds-rows-count
slice_bounds-rows-count c = let t = there c.behind_rows.ensures c.in-Ok.is in omega arith

pub slice_bounds-rows-start : goal.slice_bounds-rows-start
slice_bounds-rows-start c = let t = there c.behind_rows.ensures c.in-Ok.is in omega arith

pub overflow_cast-i : goal.overflow_cast-i
overflow_cast-i c = let t = there c.behind_rows.ensures c.in-Ok.is in omega arith

pub kind_of-requires : goal.kind_of-requires
kind_of-requires c = four (there c.behind_rows.ensures c.in-Ok.is) _ c.if-n-label.false

pub arg_of-requires : goal.arg_of-requires
arg_of-requires c = four (there c.behind_rows.ensures c.in-Ok.is) _ c.if-n-label.false

pub end_of-requires : goal.end_of-requires
end_of-requires c = four (there c.behind_rows.ensures c.in-Ok.is) _ c.if-n-label.false

pub from_of-requires : goal.from_of-requires
from_of-requires c = four (there c.behind_rows.ensures c.in-Ok.is) _ c.if-n-label.false

pub returns : goal.returns
unfolding row_at
returns c =
    rw (sym c.behind_rows.ensures ∙ c.in-Ok.is, lt-ltb _ _ c.if-n-label.false)
    (simp (c.kind_of.ensures, c.arg_of.ensures, c.end_of.ensures, c.from_of.ensures, rest))
