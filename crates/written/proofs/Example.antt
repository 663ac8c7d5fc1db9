-- The document's listing P: its words are sound, write the table of P, and are read as it. So there is a table within the
-- bounds, and rows that meet what the functions over rows ask.
use Prim.Native.Nat.{ℕ, ◌+◌, ◌<◌}
use native.Mathlib.Omega.{arith}
use mathlib.Core.Path.{◌≡◌, refl, subst}
use mathlib.Core.List.{List}
use Rattle.table.specs.declared.Layout.{Layout}
use Rattle.entries.specs.First.{first}
use Rattle.rows.specs.Rows.{form_of, meets, taken_before, false_rule, star_rule, candidate_rule, join_rule}
use Rattle.rows.specs.Rows.{bound_rule, ends_within, keeps_rules, round_of, depth_of}
use Rattle.rows.specs.Inside.Looks.{InRows, Nested}
use Rattle.entries.specs.Entries.{ascend}
use Rattle.sections.specs.Sections.{open_at, variables_at, reads_at, rows_at, strategy_at, end_at}
use Rattle.table.specs.Table.{sections, checked, layout, rows_in}
use Rattle.rows.specs.Formula.{star_at, children_at, node_at, formula_at}
use Rattle.rows.specs.Inside.Walk.{Walkable}
use Rattle.written.specs.Written.{written, Within}
use Rattle.written.specs.Tables.{table_in}
use Rattle.written.specs.Inside.Understood.{Understood}
use Rattle.written.specs.Example.{words_of_p, table_of_p}
use Rattle.written.proofs.Tables.{understood}
use Rattle.std.specs.Prelude.{Ok}

abbrev layout_of_p : Layout
layout_of_p = layout 2 1 8 3

abbrev rows_of_p : List ℕ
rows_of_p = rows_in words_of_p layout_of_p

pub P-is-sound : checked words_of_p ≡ Ok layout_of_p
unfolding first form_of meets ascend taken_before false_rule star_rule candidate_rule join_rule bound_rule ends_within keeps_rules round_of
    open_at variables_at reads_at rows_at strategy_at end_at sections checked
P-is-sound = refl

pub P-is-written : written table_of_p ≡ words_of_p
unfolding written
P-is-written = refl

pub P-is-read : table_in words_of_p layout_of_p ≡ table_of_p
unfolding form_of star_at children_at node_at formula_at
P-is-read = refl

pub P-is-understood : Understood words_of_p layout_of_p
P-is-understood = understood words_of_p layout_of_p P-is-sound

pub P-is-within : Within table_of_p
P-is-within = subst Within P-is-read P-is-understood.within

pub P-has-rows : (i : ℕ) → i < 8 → InRows rows_of_p 8 i
P-has-rows i h = record { room = P-is-understood.rows_there; few = P-is-understood.at_most_rows; here = h }

pub P-has-depth : Nested rows_of_p 8 × (0 < 8) × (depth_of rows_of_p 0 + 64 ≡ 65)
unfolding round_of
P-has-depth = (P-is-understood.nested, omega arith, refl)

pub P-can-be-walked : (i : ℕ) → i < 8 → Walkable rows_of_p 8 i
P-can-be-walked i h = record { shaped = P-is-understood.shaped; here = h }
