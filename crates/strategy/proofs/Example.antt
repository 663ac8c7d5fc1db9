-- The document's listing P: its parts are what the checks ask, and its words are accepted with two transitions.
use mathlib.Core.Path.{◌≡◌, refl, ap}
use Rattle.table.specs.declared.Layout.{Layout}
use Rattle.rows.specs.Rows.{form_of}
use Rattle.table.specs.Table.{layout, rows_in, reads_in, chosen_in}
use Rattle.rows.specs.Formula.{star_at, children_at, node_at, formula_at}
use Rattle.written.specs.Example.{words_of_p}
use Rattle.written.proofs.Example.{P-is-sound}
use Rattle.strategy.specs.Verdict.{accepted_with}
use Rattle.strategy.specs.Judge.{judged_as, judged_of}
use Rattle.strategy.specs.Inside.Parts.{Parts, Covered}
use Rattle.strategy.proofs.Held.{parts-of}

abbrev layout_of_p : Layout
layout_of_p = layout 2 1 8 3

pub P-has-parts : Parts (rows_in words_of_p layout_of_p) (reads_in words_of_p layout_of_p) (chosen_in words_of_p layout_of_p) 2 8
P-has-parts = parts-of words_of_p layout_of_p P-is-sound

pub P-is-covered : Covered (rows_in words_of_p layout_of_p) (reads_in words_of_p layout_of_p) (chosen_in words_of_p layout_of_p) 2 8
unfolding form_of star_at children_at node_at formula_at
P-is-covered = record { parts = P-has-parts; no_strangers = refl; none_missed = refl; none_doubled = refl }

pub P-is-accepted : judged_of words_of_p ≡ accepted_with layout_of_p 2
unfolding form_of star_at children_at node_at formula_at judged_of
P-is-accepted = ap (judged_as words_of_p) P-is-sound
