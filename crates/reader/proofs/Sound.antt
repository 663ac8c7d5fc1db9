-- Sound words are laid out as the checks say, so each of the first three sections opens where the one before it ends, and the
-- rows stand where the table's layout has them. Rows of sound words end behind themselves, so that their ends are taken.
use Prim.Native.Nat.{ℕ, ◌+◌, ◌-◌, ◌*◌, ◌<◌, ◌≤◌}
use native.Mathlib.Omega.{arith}
use mathlib.Core.Bool.{Bool, true, false, cond}
use mathlib.Core.List.{List}
use mathlib.Core.Path.{◌≡◌, refl, ap, ◌∙◌}
use borrow.Author.Tests.{lt-ltb, le-ltb, ltb-true}
use lib.Dec.{ltb}
use lib.ListN.{get_or, drop, length-drop}
use lib.Seq.{get_or-drop}
use Rattle.paper.specs.Limits.{most_reads, most_rows, most_variables}
use Rattle.sections.specs.declared.Cursor.{Cursor}
use Rattle.table.specs.declared.Layout.{Layout}
use Rattle.rows.specs.Rows.{end_of}
use Rattle.sections.specs.Sections.{start, open_at}
use Rattle.table.specs.Table.{part_at, rows_in}
use Rattle.sections.proofs.Opened.{behind, of-opened}
use Rattle.table.proofs.Laid.{Laid}
use Rattle.table.proofs.LaidExactly.{accepted}
use Rattle.written.proofs.Tables.{understood}
use Rattle.reader.specs.Reading.{behind_rows, rows_before, row_of, row_at, past_at}
use Rattle.reader.specs.Statements.{SoundRows, PastRises}
use Rattle.std.specs.Prelude.{Some, None, Ok}

-- the count word of a part
count_at : (words : List ℕ) (p q n : ℕ) → p ≡ q → get_or words q 0 ≡ n → get_or (drop p words) 0 0 ≡ n
count_at words p q n e h = get_or-drop p words 0 0 ∙ ap (λ k. get_or words k 0) (omega arith) ∙ h

module _ (words : List ℕ) (l : Layout) (h : Laid words l) where
  -- the cursors behind the first three sections
  abbrev a : Cursor
  a = behind start 1 l.variables

  abbrev b : Cursor
  b = behind a 1 l.reads

  abbrev c : Cursor
  c = behind b 4 l.rows

  opens-1 : open_at words start 1 most_variables 1 ≡ Ok a
  opens-1 =
      let all = h.all_words in
      of-opened words start 1 most_variables 1 l.variables
      (record { word = h.names.counted; least = h.names.some; most = h.names.most; room = omega arith })

  opens-2 : open_at (part_at words a) a 0 most_reads 1 ≡ Ok b
  opens-2 =
      let all = h.all_words in
      of-opened (part_at words a) a 0 most_reads 1 l.reads
      (record {
        word = count_at words a.at (l.variables + 1) l.reads (omega arith) h.reads.counted;
        least = omega arith;
        most = h.reads.most;
        room = omega (arith, length-drop a.at words);
      })

  opens-3 : open_at (part_at words b) b 1 most_rows 4 ≡ Ok c
  opens-3 =
      let all = h.all_words in
      of-opened (part_at words b) b 1 most_rows 4 l.rows
      (record {
        word = count_at words b.at (l.variables + l.reads + 2) l.rows (omega arith) h.rows.counted;
        least = h.rows.some;
        most = h.rows.most;
        room = omega (arith, length-drop b.at words);
      })

  behind-them : behind_rows words ≡ Ok c
  unfolding behind_rows
  behind-them = rw (opens-1, opens-2) opens-3

  rows_are : rows_before words c ≡ rows_in words l
  rows_are =
      let from = ap (λ (x : Layout). x.rows_at) h.of_counts in
      let e : c.at - 4 * c.count ≡ l.rows_at = omega arith in
      ap (λ k. drop k words) e

  is-here : (i : ℕ) → i < l.rows → row_at words i ≡ Some (row_of (rows_in words l) i)
  unfolding row_at
  is-here i k = rw (behind-them, lt-ltb i l.rows k) (ap (λ rows. Some (row_of rows i)) rows_are)

  is-absent : (i : ℕ) → l.rows ≤ i → row_at words i ≡ None
  unfolding row_at
  is-absent i k = rw (behind-them, le-ltb i l.rows k)

  is-past : (i : ℕ) → i < l.rows → i < end_of (rows_in words l) i → past_at words i ≡ end_of (rows_in words l) i
  unfolding past_at
  is-past i k rises = rw (is-here i k, lt-ltb i (end_of (rows_in words l) i) rises)

pub sound-rows : SoundRows
sound-rows words l e =
    let h = accepted words l e in
    record { here = is-here words l h; absent = is-absent words l h; past = λ i k. is-past words l h i k ((understood words l e).nested.rises i k) }

-- whichever way the test went, the label is behind
rises_by : (i end : ℕ) (t : Bool) → ltb i end ≡ t → i < cond t end (i + 1)
rises_by i end true e = ltb-true i end e
rises_by i end false e = omega arith

pub past-rises : PastRises
unfolding past_at
past-rises words i row e = rw e (rises_by i row.end.0 (ltb i row.end.0) refl)
