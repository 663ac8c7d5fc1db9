-- Each section opens where the cursor behind the one before it stands, as in the definition.
use Prim.Native.Nat.{ℕ}
use native.Mathlib.Omega.{arith}
use mathlib.Core.List.{List}
use mathlib.Core.Path.{◌≡◌, sym, ◌∙◌}
use Rattle.paper.specs.Limits.{most_reads, most_variables}
use Rattle.sections.specs.declared.Cursor.{Cursor}
use Rattle.sections.specs.Sections.{start, open_at}
use Rattle.table.specs.Table.{part_at}
use Rattle.std.proofs.lemmas.Result.{err_from_is_err_and}
use Rattle.rows.proofs.Rules.{rest}
use Rattle.reader.specs.Reading.{behind_rows}
use Rattle.reader.proofs.Behind.{Passed, passes}
use Rattle.reader.proofs.plain.behind_rows.Goals as goal
use Rattle.std.specs.Prelude.{Result, Ok}
use Rattle.paper.specs.declared.Refusal.{Refusal}

-- the first two sections that opened, one after the other, and how far their cursors stand
module _ (words : List ℕ) where
  record One (a : Cursor) : Type 0 where
    pub came : open_at words start 1 most_variables 1 ≡ Ok a
    pub passed : Passed words start a most_variables 1

  record Two (a b : Cursor) : Type 0 where
    pub before : One a
    pub came : open_at (part_at words a) a 0 most_reads 1 ≡ Ok b
    pub passed : Passed words a b most_reads 1

module _ {words : List ℕ} {r : Result Cursor Refusal} where
  one : {s a : Cursor} → s ≡ start → r ≡ open_at words s 1 most_variables 1 → r ≡ Ok a → One words a
  one {s} {a} e f g =
      let came : open_at words start 1 most_variables 1 ≡ Ok a = cc in
      record { came = came; passed = passes words start a 1 most_variables 1 came }

  two : {a b : Cursor} → One words a → r ≡ open_at (part_at words a) a 0 most_reads 1 → r ≡ Ok b → Two words a b
  two {a} {b} o f g =
      let came = sym f ∙ g in
      record { before = o; came = came; passed = passes words a b 0 most_reads 1 came }

pub returns-in_err-one : goal.returns-in_err-one
unfolding behind_rows
returns-in_err-one c =
    let p = err_from_is_err_and c.from_residual.result c.from_residual.ensures.1 in
    rw (p.1, p.2) (simp (← c.new.ensures, ← c.«open».ensures, c.in_err-one.was))

pub offset_bounds-words-a : goal.offset_bounds-words-a
offset_bounds-words-a c =
    let p = one c.new.ensures c.«open».ensures c.in_ok-one.was in
    let h = p.passed in
    omega arith

pub slice_bounds-open-count : goal.slice_bounds-open-count
slice_bounds-open-count c =
    let p = one c.new.ensures c.«open».ensures c.in_ok-one.was in
    let h = p.passed in
    omega arith

pub slice_bounds-open-start : goal.slice_bounds-open-start
slice_bounds-open-start c =
    let p = one c.new.ensures c.«open».ensures c.in_ok-one.was in
    let h = p.passed in
    omega arith

pub open-requires-2 : goal.open-requires-2
open-requires-2 c =
    let p = one c.new.ensures c.«open».ensures c.in_ok-one.was in
    let h = p.passed in
    (omega arith, omega arith)

pub returns-in_err-two : goal.returns-in_err-two
unfolding behind_rows
returns-in_err-two c =
    let r = err_from_is_err_and c.from_residual-in_err-two.result c.from_residual-in_err-two.ensures.1 in
    let p = one c.new.ensures c.«open».ensures c.in_ok-one.was in
    let f = simp rest at c.open-2.ensures in
    rw (r.1, r.2, p.came) (simp (← f, c.in_err-two.was))

pub offset_bounds-words-b : goal.offset_bounds-words-b
offset_bounds-words-b c =
    let p = one c.new.ensures c.«open».ensures c.in_ok-one.was in
    let q = two p (simp rest at c.open-2.ensures) c.in_ok-two.was in
    let h = q.passed in
    omega arith

pub slice_bounds-open-count-2 : goal.slice_bounds-open-count-2
slice_bounds-open-count-2 c =
    let p = one c.new.ensures c.«open».ensures c.in_ok-one.was in
    let q = two p (simp rest at c.open-2.ensures) c.in_ok-two.was in
    let h = q.passed in
    omega arith

pub slice_bounds-open-start-2 : goal.slice_bounds-open-start-2
slice_bounds-open-start-2 c =
    let p = one c.new.ensures c.«open».ensures c.in_ok-one.was in
    let q = two p (simp rest at c.open-2.ensures) c.in_ok-two.was in
    let h = q.passed in
    omega arith

pub open-requires-3 : goal.open-requires-3
open-requires-3 c =
    let p = one c.new.ensures c.«open».ensures c.in_ok-one.was in
    let q = two p (simp rest at c.open-2.ensures) c.in_ok-two.was in
    let h = p.passed in
    let k = q.passed in
    (omega arith, omega arith)

pub returns : goal.returns
unfolding behind_rows
returns c =
    let p = one c.new.ensures c.«open».ensures c.in_ok-one.was in
    let q = two p (simp rest at c.open-2.ensures) c.in_ok-two.was in
    rw (p.came, q.came) (simp rest at c.open-3.ensures)
