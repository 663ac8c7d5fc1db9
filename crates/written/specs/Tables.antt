-- The table that words write, and the theorem that joins checker and writer: words pass the checks exactly if they are the
-- written form of one table within the bounds, and that table is the one that is read from them (proofs/Tables.antt).
use Rattle.std.specs.Prelude.{ℕ, List, map, ◌≡◌, ◌↔◌, length, Ok}
use Rattle.paper.specs.Limits.{most_depth}
use Rattle.paper.specs.Formula.{ℓ, Formula}
use Rattle.table.specs.declared.Layout.{Layout}
use Rattle.table.specs.Table.{layout, names_in, reads_in, rows_in, chosen_in, checked}
use Rattle.rows.specs.Formula.{formula_at}
use Rattle.written.specs.Written.{Table, written, Within, taken_reads, size}

module _ (words : List ℕ) (l : Layout) where
  -- the formula that the rows write, 64 levels deep at most
  abbrev pub formula_in : Formula
  formula_in = formula_at (rows_in words l) (reads_in words l) most_depth 0

  abbrev pub table_in : Table
  table_in = record { names = names_in words l; formula = formula_in; strategy = map ℓ (chosen_in words l) }

-- the layout of a table's words
abbrev pub layout_of : Table → Layout
layout_of t = layout (length t.names) (length (taken_reads t.formula)) (size t.formula) (length t.strategy)

-- words are sound exactly if they write a table within the bounds
abbrev pub SoundExactly : List ℕ → Type 0
SoundExactly words = ((l : Layout) × (checked words ≡ Ok l)) ↔ ((t : Table) × Within t × (words ≡ written t))

-- and that table is the one read from them: so there is one only
abbrev pub OneTable : List ℕ → Type 0
OneTable words = (t : Table) → Within t → words ≡ written t → (checked words ≡ Ok (layout_of t)) × (table_in words (layout_of t) ≡ t)

-- no two tables within the bounds are written alike
abbrev pub WrittenOnce : Type 0
WrittenOnce = (t u : Table) → Within t → Within u → written t ≡ written u → t ≡ u
