-- Words that pass the checks write the table that is read from them. Rows that keep their rules write a formula no deeper than
-- 64, so that 64 levels are enough to read it; and the counts cut the words into the sections that the writer writes.
use Prim.Native.Nat.{ℕ, zero, suc, ◌+◌, ◌*◌, ◌<◌, ◌≤◌}
use native.Mathlib.Omega.{arith}
use mathlib.Core.Path.{◌≡◌, refl, sym, ap, ap₂, subst, ◌∙◌}
use mathlib.Core.Bool.{true}
use mathlib.Core.List.{List, ◌∷◌, ◌++◌, map, append_assoc, append-nil}
use lib.ListN.{length, get_or, take, drop, length-drop, length-map, take-append-drop}
use lib.Seq.{length-take-le, take_all, drop-length, drop-cons, drop-drop}
use Rattle.paper.specs.Limits.{most_depth}
use Rattle.paper.specs.Formula.{ℓ, Formula, labels, Rising, WellFormed}
use Rattle.paper.proofs.Lists.{of-any}
use Rattle.paper.proofs.Labels.{alike-eq}
use Rattle.table.specs.declared.Layout.{Layout}
use Rattle.entries.specs.First.{first}
use Rattle.rows.specs.Rows.{taken_before, keeps_rules, is_deep}
use Rattle.entries.specs.Entries.{falls, beyond}
use Rattle.rows.specs.Formula.{formula_at}
use Rattle.written.specs.Written.{taken_reads, size, rows_from, written, depth, labels_on, Within}
use Rattle.written.specs.Tables.{formula_in, table_in, layout_of}
use Rattle.written.specs.Inside.Understood.{Understood}
use Rattle.table.specs.Table.{names_in, reads_in, rows_in, chosen_in}
use Rattle.entries.proofs.First.{to-neither}
use Rattle.written.proofs.Words.{map_back, Each, each_map, word-mem, of_rising, to-ascend, to_below}
use Rattle.written.proofs.Writes.{Writes}
use Rattle.written.proofs.WrittenRows.{length-rows}
use Rattle.written.proofs.WritesRead.{formula-read}
use Rattle.written.proofs.WritesWords.{rows-stand, reads-stand, labels-count}
use Rattle.written.proofs.WrittenDepth.{written-depth}
use Rattle.written.proofs.RulesWrite.{rules-write-whole}
use Rattle.written.proofs.Bounds.{FormulaWithin, formula-within}
use Rattle.rows.proofs.Nested.{nested}
use Rattle.rows.proofs.Shaped.{shaped}
use Rattle.table.proofs.Laid.{Laid}

-- The formula that 64 levels of sound rows hold.
record HeldBy (rows reads : List ℕ) (#N : ℕ) (f : Formula) : Type 0 where
  writes : Writes rows reads f 0 0
  many : size f ≡ #N
  shallow : depth f ≤ most_depth
  reads_are : taken_reads f ≡ reads
  rows_are : take (4 * #N) rows ≡ rows_from f 0 0

held_by : (rows reads : List ℕ) (#V #N : ℕ) → ((i : ℕ) → i < #N → keeps_rules rows reads #V #N i ≡ true) → 0 < #N → 4 * #N ≤ length rows
    → taken_before rows #N ≡ length reads → first (is_deep rows) #N ≡ #N → HeldBy rows reads #N (formula_at rows reads most_depth 0)
held_by rows reads #V #N keep some room taken none_deep =
    let f = formula_at rows reads #N 0 in
    let w = rules-write-whole rows reads #V #N keep #N some (omega arith) in
    let d = (written-depth rows reads f #N w.writes w.many).0 none_deep in
    let n = w.many in
    let m = w.taken in
    let e : 4 * #N ≡ length (rows_from f 0 0) = omega (arith, length-rows f 0 0) in
    rw (formula-read rows reads f 0 0 most_depth w.writes d)
    (record {
      writes = w.writes;
      many = n;
      shallow = d;
      reads_are = sym (reads-stand rows reads f 0 0 w.writes).is ∙ take_all (length (taken_reads f)) reads (omega arith);
      rows_are = rw e (rows-stand rows reads f 0 0 (omega arith) w.writes).is;
    })

-- labels that count up ascend
counted-rise : (p i n : ℕ) → p ≤ i → Rising p (labels_on i n)
counted-rise p i zero h = tt
counted-rise p i (suc n) h = (h, counted-rise (suc i) (suc i) n (omega arith))

-- a formula within the bounds, whose labels count up, is well formed
within-forms : (#V : ℕ) (f : Formula) → labels f ≡ labels_on 0 (size f) → FormulaWithin #V f → WellFormed #V f
within-forms #V f e g = record {
  rising = rw e (counted-rise 0 0 (size f) (omega arith));
  assigned = g.assigned_below;
  read = λ s m v h. let (w, u, q) = of-any _ s.reads h in rw (alike-eq v w q) (g.reads_below s m w u);
}

-- the words from a count on: the section, and what follows it
cut : (words : List ℕ) (p q z m n : ℕ) → p + 1 ≡ q → q + m ≡ z → get_or words p 0 ≡ n → p < length words
    → drop p words ≡ (n ∷ take m (drop q words)) ++ drop z words
cut words p q z m n e d c h =
    let s : suc p ≡ q = omega arith in
    drop-cons words p 0 h ∙ ap₂ (λ x y. x ∷ y) c (rw (← d, ← drop-drop m q words, take-append-drop m (drop q words), s))

module _ (words : List ℕ) (l : Layout) (h : Laid words l) where
  reads-from : l.reads_at ≡ l.variables + 2
  reads-from = ap (λ x. x.reads_at) h.of_counts

  rows-from : l.rows_at ≡ l.variables + l.reads + 3
  rows-from = ap (λ x. x.rows_at) h.of_counts

  chosen-from : l.chosen_at ≡ l.variables + l.reads + 4 * l.rows + 4
  chosen-from = ap (λ x. x.chosen_at) h.of_counts

  names_there : l.variables ≤ length (drop 1 words)
  names_there = omega (arith, length-drop 1 words, h.all_words)

  reads_there : l.reads ≤ length (drop l.reads_at words)
  reads_there = omega (arith, length-drop l.reads_at words, h.all_words, reads-from)

  rows_there : 4 * l.rows ≤ length (rows_in words l)
  rows_there = omega (arith, length-drop l.rows_at words, h.all_words, rows-from)

  chosen_there : l.chosen ≤ length (drop l.chosen_at words)
  chosen_there = omega (arith, length-drop l.chosen_at words, h.all_words, chosen-from)

  length-names : length (names_in words l) ≡ l.variables
  length-names = length-take-le l.variables (drop 1 words) names_there

  length-reads : length (reads_in words l) ≡ l.reads
  length-reads = length-take-le l.reads (drop l.reads_at words) reads_there

  length-chosen : length (chosen_in words l) ≡ l.chosen
  length-chosen = length-take-le l.chosen (drop l.chosen_at words) chosen_there

  held : HeldBy (rows_in words l) (reads_in words l) l.rows (formula_in words l)
  held =
      let r = h.rows in
      held_by (rows_in words l) (reads_in words l) l.variables l.rows r.keep r.some rows_there (r.taken ∙ sym length-reads) r.shallow

  below : Each (λ w. w < l.variables) (reads_in words l)
  below = to_below (drop l.reads_at words) l.reads reads_there l.variables h.reads.below

  in_bounds : FormulaWithin l.variables (formula_in words l)
  in_bounds =
      let n = held.many in
      formula-within (rows_in words l) (reads_in words l) l.variables l.rows h.rows.keep below (formula_in words l) 0 0 (omega arith) held.writes

  counted : labels (formula_in words l) ≡ labels_on 0 (size (formula_in words l))
  counted = labels-count (rows_in words l) (reads_in words l) (formula_in words l) 0 0 held.writes

  fit : (first (beyond (drop l.chosen_at words) l.rows) l.chosen ≡ l.chosen) × (first (falls (drop l.chosen_at words)) l.chosen ≡ l.chosen)
  fit = to-neither (beyond (drop l.chosen_at words) l.rows) (falls (drop l.chosen_at words)) l.chosen h.chosen.fit

  chosen-rise : Rising 0 (map ℓ (chosen_in words l))
  chosen-rise = to-ascend (drop l.chosen_at words) l.chosen chosen_there fit.1

  chosen_below : Each (λ w. w < l.rows) (chosen_in words l)
  chosen_below = to_below (drop l.chosen_at words) l.chosen chosen_there l.rows fit.0

  within : Within (table_in words l)
  within =
      let f = formula_in words l in
      let v = length-names in
      let n = held.many in
      let g = subst (λ m. FormulaWithin m f) (sym v) in_bounds in
      record {
        some_names = omega (arith, h.names.some);
        most_names = omega (arith, h.names.most);
        names_ascend = to-ascend (drop 1 words) l.variables names_there h.names.ascend;
        at_most_reads = omega (arith, ap length held.reads_are, length-reads, h.reads.most);
        reads_ascend = g.reads_ascend;
        reads_below = g.reads_below;
        assigned_below = g.assigned_below;
        at_most_rows = omega (arith, h.rows.most);
        preorder = counted;
        shallow = held.shallow;
        at_most_chosen = omega (arith, length-map (chosen_in words l) ℓ, length-chosen, h.chosen.most);
        chosen_ascend = chosen-rise;
        chosen_below = each_map ℓ (λ c. c.0 < size f) (chosen_in words l) (λ w t. rw n (chosen_below w t));
      }

  -- the counts cut the words into sections
  cut-whole : words
      ≡ (l.variables ∷ names_in words l) ++ (l.reads ∷ reads_in words l) ++ (l.rows ∷ take (4 * l.rows) (rows_in words l)) ++ (l.chosen ∷ chosen_in words l)
  cut-whole =
      let x = reads-from in
      let y = rows-from in
      let z = chosen-from in
      let all = h.all_words in
      let v = l.variables in
      let r = l.reads in
      let n = l.rows in
      let a = cut words 0 1 (v + 1) v v (omega arith) (omega arith) h.names.counted (omega arith) in
      let b = cut words (v + 1) l.reads_at (v + r + 2) r r (omega arith) (omega arith) h.reads.counted (omega arith) in
      let c = cut words (v + r + 2) l.rows_at (v + r + 4 * n + 3) (4 * n) n (omega arith) (omega arith) h.rows.counted (omega arith) in
      let d =
      cut words (v + r + 4 * n + 3) l.chosen_at (length words) l.chosen l.chosen (omega arith) (omega arith) h.chosen.counted (omega arith) in
      a ∙ rw (b, c, d, drop-length words, append-nil (chosen_in words l)) (simp append_assoc)

  words_are : words ≡ written (table_in words l)
  unfolding written
  words_are =
      let numbers = map_back ℓ (λ k. k.0) (λ w. refl) (chosen_in words l) in
      cut-whole ∙ sym (rw (held.reads_are, length-names, length-reads, held.many, ← held.rows_are, numbers, length-chosen))

  laid_out : l ≡ layout_of (table_in words l)
  laid_out =
      h.of_counts
      ∙ sym (rw (held.reads_are, length-names, length-reads, held.many, length-map (chosen_in words l) ℓ, length-chosen))

  pub understand : Understood words l
  understand = record {
    within = within;
    words_are = words_are;
    laid_out = laid_out;
    of_counts = h.of_counts;
    all_words = omega (arith, h.all_words, chosen-from);
    at_most_words = omega (arith, h.all_words, h.names.most, h.reads.most, h.rows.most, h.chosen.most);
    some_variables = h.names.some;
    at_most_variables = h.names.most;
    at_most_reads = h.reads.most;
    some_rows = h.rows.some;
    at_most_rows = h.rows.most;
    at_most_chosen = h.chosen.most;
    names_there = length-names;
    reads_there = length-reads;
    rows_there = rows_there;
    chosen_there = length-chosen;
    reads_below = λ k b. below _ (word-mem (reads_in words l) k (omega (arith, length-reads)));
    rules_kept = h.rows.keep;
    shaped = shaped (rows_in words l) (reads_in words l) l.variables l.rows h.rows.keep rows_there h.rows.most;
    nested = nested (rows_in words l) (reads_in words l) l.variables l.rows h.rows.keep rows_there h.rows.most;
    chosen_ascend = λ k b. of_rising 0 (chosen_in words l) chosen-rise k (omega (arith, length-chosen));
    chosen_below = λ k b. chosen_below _ (word-mem (chosen_in words l) k (omega (arith, length-chosen)));
    size_is = held.many;
    shallow = held.shallow;
    labels_are = counted ∙ ap (labels_on 0) held.many;
    reads_are = held.reads_are;
    well_formed = within-forms l.variables (formula_in words l) counted in_bounds;
  }
