-- The document's listing, read row by row, and its subtrees passed: labels 0 to 7 have the rows that it writes, label 8 has none. And rows
-- whose ends are no ends of subtrees.
use Prim.Native.Nat.{ℕ}
use mathlib.Core.List.{List, [], ◌∷◌, map}
use mathlib.Core.Path.{◌≡◌, refl}
use Rattle.paper.specs.Formula.{ℓ}
use Rattle.sections.specs.Sections.{open_at}
use Rattle.written.specs.Example.{words_of_p}
use Rattle.reader.specs.Reading.{behind_rows, row_at, past_at, row_past}
use Rattle.std.specs.Prelude.{Option, Some, None}
use Rattle.reader.specs.declared.Row.{Row}

abbrev row : ℕ → ℕ → ℕ → ℕ → ℕ → Option Row
row label kind arg end from = Some (record { label = ℓ label; kind = kind; arg = arg; end = ℓ end; from = from })

pub P-is-read : map (row_at words_of_p) (0 ∷ 1 ∷ 2 ∷ 3 ∷ 4 ∷ 5 ∷ 6 ∷ 7 ∷ 8 ∷ 65536 ∷ [])
    ≡ row 0 3 2 8 0 ∷ row 1 2 0 3 0 ∷ row 2 1 0 3 0 ∷ row 3 4 2 8 0 ∷ row 4 2 1 6 0 ∷ row 5 1 1 6 0 ∷ row 6 2 1 8 1 ∷ row 7 1 0 8 1 ∷ None ∷ None ∷ []
unfolding open_at behind_rows row_at
P-is-read = refl

pub P-is-passed : map (past_at words_of_p) (0 ∷ 1 ∷ 2 ∷ 3 ∷ 4 ∷ 5 ∷ 6 ∷ 7 ∷ 8 ∷ []) ≡ 8 ∷ 3 ∷ 3 ∷ 8 ∷ 6 ∷ 6 ∷ 8 ∷ 8 ∷ 8 ∷ []
unfolding open_at behind_rows row_at past_at
P-is-passed = refl

-- rows whose ends are wrong: row 0 ends beyond the rows, row 1 at itself, row 2 before itself
abbrev bad_ends : List ℕ
bad_ends = 1 ∷ 7 ∷ 0 ∷ 3 ∷ 3 ∷ 1 ∷ 9 ∷ 0 ∷ 0 ∷ 0 ∷ 1 ∷ 0 ∷ 0 ∷ 0 ∷ 1 ∷ 0 ∷ []

-- the first is passed at its end, where there is no row; the others at the next label; where there is no row, the label stays
pub bad-ends-are-passed : map (past_at bad_ends) (0 ∷ 1 ∷ 2 ∷ 3 ∷ 9 ∷ []) ≡ 9 ∷ 2 ∷ 3 ∷ 3 ∷ 9 ∷ []
unfolding open_at behind_rows row_at past_at
bad-ends-are-passed = refl

pub rows-past-bad-ends : map (row_past bad_ends) (0 ∷ 1 ∷ 2 ∷ []) ≡ None ∷ row 2 0 0 1 0 ∷ None ∷ []
unfolding open_at behind_rows row_at past_at
rows-past-bad-ends = refl
