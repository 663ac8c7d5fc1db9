-- What a cursor behind the rows tells: how many rows there are, and that their words stand before it. Each section that opens
-- where its cursor stands leaves the next cursor within the words.
use Prim.Native.Nat.{ℕ, ◌+◌, ◌*◌, ◌<◌, ◌≤◌}
use native.Mathlib.Omega.{arith}
use mathlib.Core.Bool.{Bool, true, false, cond}
use mathlib.Core.List.{List}
use mathlib.Core.Path.{◌≡◌, refl, ap}
use borrow.Author.Tests.{ltb-true}
use lib.Dec.{ltb}
use lib.ListN.{length, length-drop}
use Rattle.paper.specs.Limits.{most_reads, most_rows, most_variables}
use Rattle.sections.specs.declared.Cursor.{Cursor}
use Rattle.sections.specs.Sections.{start, open_at}
use Rattle.table.specs.Table.{part_at}
use Rattle.sections.proofs.Opened.{opened, through}
use Rattle.reader.specs.declared.Row.{Row}
use Rattle.reader.specs.Reading.{behind_rows, found_in, row_at}
use Rattle.std.specs.Prelude.{Some, None, Result, Ok, Err}
use Rattle.paper.specs.declared.Refusal.{Refusal}

-- a section of at most `high` entries of so many words each, from the cursor c to the cursor d
pub record Passed (words : List ℕ) (c d : Cursor) (high width : ℕ) : Type 0 where
  pub most : d.count ≤ high
  pub next : d.at ≡ c.at + 1 + d.count * width
  pub within : d.at ≤ length words

pub passes : (words : List ℕ) (c d : Cursor) (low high width : ℕ) → open_at (part_at words c) c low high width ≡ Ok d → Passed words c d high width
passes words c d low high width e =
    let o = opened (part_at words c) c low high width d e in
    let at = ap (λ x. x.at) o.1 in
    let m = o.0.most in
    let r = o.0.room in
    let n = length-drop c.at words in
    record { most = m; next = at; within = omega arith }

-- the rows stand before the cursor behind them
pub record RowsThere (words : List ℕ) (c : Cursor) : Type 0 where
  pub few : c.count ≤ most_rows
  pub room : 4 * c.count ≤ c.at
  pub within : c.at ≤ length words

pub rows_there : (words : List ℕ) (c : Cursor) → behind_rows words ≡ Ok c → RowsThere words c
unfolding behind_rows
rows_there words c e =
    let t = through (open_at words start 1 most_variables 1) _ c e in
    let u = through (open_at (part_at words t.mid) t.mid 0 most_reads 1) _ c t.went in
    let p = passes words u.mid c 1 most_rows 4 u.went in
    record { few = p.most; room = omega arith; within = p.within }

-- a label that has a row passed the test for N, so that it is below 4,096
here-by : (b : Bool) (x row : Row) → cond b (Some x) None ≡ Some row → b ≡ true
here-by true x row e = refl
here-by false x row e = let z : ◌≡◌ {A = ℕ} 0 1 = cc in absurd (omega arith)

before-few : (words : List ℕ) (i : ℕ) (row : Row) (s : Result Cursor Refusal) → ((c : Cursor) → s ≡ Ok c → RowsThere words c)
    → found_in words i s ≡ Some row → i < most_rows
before-few words i row (Err r) there e = let z : ◌≡◌ {A = ℕ} 0 1 = cc in absurd (omega arith)
before-few words i row (Ok c) there e =
    let t = there c refl in
    omega (arith, ltb-true i c.count (here-by (ltb i c.count) _ row e))

pub here-few : (words : List ℕ) (i : ℕ) (row : Row) → row_at words i ≡ Some row → i < most_rows
unfolding row_at
here-few words i row e = before-few words i row (behind_rows words) (rows_there words) e
