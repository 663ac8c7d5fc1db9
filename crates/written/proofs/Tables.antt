-- Words pass the checks exactly if they write a table within the bounds, and that table is the one that is read from them. The
-- written form of a table has its sections where the layout says, its rows write its formula, and rows that write a formula
-- keep their rules; the other way round is `understand`.
use Prim.Native.Nat.{ℕ, ◌+◌, ◌*◌, ◌<◌}
use native.Mathlib.Omega.{arith}
use mathlib.Core.Path.{◌≡◌, refl, sym, ap, ◌∙◌}
use mathlib.Core.List.Memᴰ
use mathlib.Core.List.{List, [], ◌∷◌, ◌++◌, map}
use lib.ListN.{length, get_or, length-append, length-map}
use Rattle.paper.specs.Limits.{most_depth}
use Rattle.paper.specs.Formula.{ℓ, Star, stars}
use Rattle.table.specs.declared.Layout.{Layout}
use Rattle.table.specs.Table.{checked, reads_in, rows_in}
use Rattle.written.specs.Written.{Table, read_words, reads_from, taken_reads, size, rows_from, section, written, Within}
use Rattle.written.specs.Tables.{table_in, layout_of, SoundExactly, OneTable, WrittenOnce}
use Rattle.written.specs.Inside.Understood.{SoundUnderstood}
use Rattle.entries.proofs.First.{of-neither}
use Rattle.written.proofs.Stands.{Stands, stands-whole, stands-there, stands-front, stands-back, entry_at}
use Rattle.written.proofs.Words.{map_back, Each, each_none, each_append, each_map, none-falls, none-beyond}
use Rattle.written.proofs.Writes.{Writes}
use Rattle.written.proofs.WrittenRows.{length-rows, written-write}
use Rattle.written.proofs.WritesRead.{formula-read}
use Rattle.written.proofs.WritesKeep.{some_rows, keep-rules, take-reads}
use Rattle.written.proofs.WrittenDepth.{written-depth}
use Rattle.table.proofs.Laid.{Laid}
use Rattle.table.proofs.LaidExactly.{accepted, laid}
use Rattle.written.proofs.Understood.{understand}
use Rattle.std.specs.Prelude.{Ok}

-- what is claimed of the reads of each star is so of all reads
each_read : (P : ℕ → Type 0) (ss : List Star) → Each (λ s. Each (λ v. P v.0) s.reads) ss → Each P (reads_from ss)
each_read P [] h = each_none P
each_read P (s ∷ ss) h =
    each_append P (read_words s) (each_map (λ v. v.0) P s.reads (h s (Memᴰ.head refl))) (each_read P ss (λ u t. h u (Memᴰ.tail t)))

-- A section at place k: its count, and behind it, at place j, its entries.
record SectionAt (ws : List ℕ) (k j n : ℕ) (ns : List ℕ) : Type 0 where
  counted : get_or ws k 0 ≡ n
  stand : Stands ws j ns

section-at : {ws ns : List ℕ} {k j n m : ℕ} → k + 1 ≡ j → m ≡ n → Stands ws k (m ∷ ns) → SectionAt ws k j n ns
section-at {ns = ns} {m = m} e d h = record { counted = entry_at (m ∷ ns) 0 0 (omega arith) (omega arith) h ∙ d; stand = stands-back (m ∷ []) ns e h }

-- The sections of a table are in its written form where its layout says.
module _ (t : Table) where
  abbrev l : Layout
  l = layout_of t

  abbrev chosen : List ℕ
  chosen = map (λ c. c.0) t.strategy

  abbrev rows : List ℕ
  rows = size t.formula ∷ rows_from t.formula 0 0

  abbrev front : List ℕ
  front = section t.names ++ section (taken_reads t.formula)

  chosen-count : length chosen ≡ l.chosen
  chosen-count = length-map t.strategy (λ c. c.0)

  whole : Stands (written t) 0 (front ++ rows ++ section chosen)
  unfolding written
  whole = stands-whole (written t)

  front-stands : Stands (written t) 0 front
  front-stands = stands-front front rows (stands-front (front ++ rows) (section chosen) whole)

  names_at : SectionAt (written t) 0 1 l.variables t.names
  names_at = section-at (omega arith) refl (stands-front (section t.names) (section (taken_reads t.formula)) front-stands)

  reads_at : SectionAt (written t) (l.variables + 1) l.reads_at l.reads (taken_reads t.formula)
  reads_at = section-at (omega arith) refl (stands-back (section t.names) (section (taken_reads t.formula)) (omega arith) front-stands)

  rows_at : SectionAt (written t) (l.variables + l.reads + 2) l.rows_at l.rows (rows_from t.formula 0 0)
  rows_at =
      section-at (omega arith) refl
      (stands-back front rows (simp length-append (omega arith)) (stands-front (front ++ rows) (section chosen) whole))

  chosen_at : SectionAt (written t) (l.variables + l.reads + 4 * l.rows + 3) l.chosen_at l.chosen chosen
  chosen_at = section-at (omega arith) chosen-count (stands-back (front ++ rows) (section chosen) (simp (length-append, length-rows) (omega arith)) whole)

  all_words : length (written t) ≡ l.variables + l.reads + 4 * l.rows + l.chosen + 4
  unfolding written
  all_words =
      let a = length-append (section t.names) (section (taken_reads t.formula)) in
      let b = length-append front rows in
      let c = length-append (front ++ rows) (section chosen) in
      omega (arith, length-rows t.formula 0 0, chosen-count)

-- Its rows write its formula: so the checks pass, and it is read back.
module _ (t : Table) (w : Within t) where
  writes : Writes (rows_in (written t) (layout_of t)) (reads_in (written t) (layout_of t)) t.formula 0 0
  writes =
      written-write (rows_in (written t) (layout_of t)) (reads_in (written t) (layout_of t)) t.formula 0 0
      (stands-there (rows_from t.formula 0 0) (rows_at t).stand)
      (rw (reads_at t).stand.is (stands-whole (taken_reads t.formula))) w.preorder

  labels-back : map ℓ (chosen t) ≡ t.strategy
  labels-back = map_back (λ c. c.0) ℓ (λ c. refl) t.strategy

  laid_out : Laid (written t) (layout_of t)
  laid_out =
      let f = t.formula in
      let l = layout_of t in
      let rows = rows_in (written t) l in
      let reads = reads_in (written t) l in
      let s = (chosen_at t).stand in
      record {
        of_counts = refl;
        names = record {
          some = w.some_names;
          most = w.most_names;
          counted = (names_at t).counted;
          ascend = none-falls (names_at t).stand w.names_ascend;
        };
        reads = record {
          most = w.at_most_reads;
          counted = (reads_at t).counted;
          below = none-beyond (reads_at t).stand l.variables (each_read (λ v. v < l.variables) (stars f) w.reads_below);
        };
        rows = record {
          some = some_rows f;
          most = w.at_most_rows;
          counted = (rows_at t).counted;
          keep = keep-rules rows reads l.variables l.rows f writes refl w.assigned_below w.reads_ascend;
          taken = take-reads rows reads l.variables l.rows f writes refl w.assigned_below w.reads_ascend;
          shallow = (written-depth rows reads f l.rows writes refl).1 w.shallow;
        };
        chosen = record {
          most = w.at_most_chosen;
          counted = (chosen_at t).counted;
          fit = rw (← chosen-count t)
              (of-neither _ _ (length (chosen t))
              (none-beyond s l.rows (each_map (λ c. c.0) (λ k. k < l.rows) t.strategy w.chosen_below))
              (none-falls s (rw labels-back w.chosen_ascend)));
        };
        all_words = all_words t;
      }

  read_back : table_in (written t) (layout_of t) ≡ t
  read_back =
      rw (
        (names_at t).stand.is,
        formula-read (rows_in (written t) (layout_of t)) (reads_in (written t) (layout_of t)) t.formula 0 0 most_depth writes w.shallow,
        ← chosen-count t,
        (chosen_at t).stand.is,
        labels-back,
      )

pub one_table : (words : List ℕ) → OneTable words
one_table words t w e = rw e (laid (written t) (layout_of t) (laid_out t w), read_back t w)

pub understood : (words : List ℕ) (l : Layout) → SoundUnderstood words l
understood words l e = understand words l (accepted words l e)

pub sound-exactly : (words : List ℕ) → SoundExactly words
sound-exactly words = (to, from)
  where
    to : (l : Layout) × (checked words ≡ Ok l) → (t : Table) × Within t × (words ≡ written t)
    to (l, e) = let u = understood words l e in (table_in words l, u.within, u.words_are)

    from : (t : Table) × Within t × (words ≡ written t) → (l : Layout) × (checked words ≡ Ok l)
    from (t, w, e) = (layout_of t, (one_table words t w e).0)

pub written_once : WrittenOnce
written_once t u w z e =
    let a = one_table (written t) t w refl in
    let b = one_table (written t) u z e in
    let same : layout_of t ≡ layout_of u = cc in
    sym a.1 ∙ ap (table_in (written t)) same ∙ b.1
