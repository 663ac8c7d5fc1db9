-- Words are sound exactly if they are laid out as document 01 says, section after section and nothing behind the last.
use Prim.Native.Nat.{ℕ, ◌+◌, ◌*◌, ◌≤◌}
use native.Mathlib.Omega.{arith}
use mathlib.Core.List.{List}
use mathlib.Core.Path.{◌≡◌, refl, ap, ◌∙◌}
use borrow.Author.Tests.{ltb-false, le-ltb}
use lib.Dec.{ltb}
use lib.ListN.{length}
use Rattle.paper.specs.Limits.{most_reads, most_rows, most_variables}
use Rattle.sections.specs.declared.Cursor.{Cursor}
use Rattle.table.specs.declared.Layout.{Layout}
use Rattle.sections.specs.Sections.{start, variables_at, reads_at, rows_at, strategy_at, end_at}
use Rattle.table.specs.Table.{part_at, reads_of, sections, layout, as_checked, checked}
use Rattle.sections.proofs.Opened.{passed, through}
use Rattle.table.proofs.Laid.{Laid}
use Rattle.table.proofs.PassedSections.{after_chosen, NamesPassed, ReadsPassed, RowsPassed, ChosenPassed}
use Rattle.table.proofs.PassedSections.{names_of, of-names, reads-of, of-reads, rows_of, of-rows, chosen_of, of-chosen}
use Rattle.std.specs.Prelude.{Result, Ok, Err}
use Rattle.paper.specs.declared.Refusal.{Refusal}

module _ (words : List ℕ) where
  end-of : (c d : Cursor) → end_at (length words) c ≡ Ok d → (length words ≤ c.at) × (d ≡ c)
  unfolding end_at
  end-of c d e = let p = passed (ltb c.at (length words)) _ (Ok c) d e in (ltb-false _ _ p.0, (cc))

  -- words of which every section passed
  pub record Sectioned (d : Cursor) : Type 0 where
    pub #V : ℕ
    pub #R : ℕ
    pub #N : ℕ
    pub #S : ℕ
    pub cursor : d ≡ after_chosen #V #R #N #S
    pub laid_out : Laid words (layout #V #R #N #S)

  -- all four sections passed, and nothing follows
  all-passed : {a b c d : Cursor} (p : NamesPassed words a) (q : ReadsPassed words p.count b) (r : RowsPassed words p.count q.count c)
      (s : ChosenPassed words p.count q.count r.count d) (e : Cursor) → end_at (length words) d ≡ Ok e → Sectioned e
  all-passed {d = d} p q r s e h =
      let z = end-of d e h in
      record {
        #V = p.count;
        #R = q.count;
        #N = r.count;
        #S = s.count;
        cursor = z.1 ∙ s.cursor;
        laid_out = record {
          of_counts = refl;
          names = p.holds.1 q.count r.count s.count;
          reads = q.holds.1 r.count s.count;
          rows = r.holds.1 s.count;
          chosen = s.holds.1;
          all_words = omega (arith, s.holds.0, z.0, ap (λ x. x.at) s.cursor);
        };
      }

  pub sections-of : (d : Cursor) → sections words ≡ Ok d → Sectioned d
  unfolding sections
  sections-of d e =
      let t = through (variables_at words start) _ d e in
      let p = names_of words t.mid t.came in
      let u = through (reads_at (part_at words t.mid) t.mid) _ d t.went in
      let q = reads-of words p.count t.mid u.mid p.cursor u.came in
      let v = through (rows_at (part_at words u.mid) (reads_of words u.mid) u.mid) _ d u.went in
      let r = rows_of words p.count q.count u.mid v.mid q.cursor v.came in
      let w = through (strategy_at (part_at words v.mid) v.mid) _ d v.went in
      let s = chosen_of words p.count q.count r.count v.mid w.mid r.cursor w.came in
      all-passed p q r s d w.went

  pub counts-small : (d : Cursor) → sections words ≡ Ok d → (d.variables ≤ most_variables) × (d.reads ≤ most_reads) × (d.rows ≤ most_rows)
  counts-small d e = let s = sections-of d e in let h = s.laid_out in rw s.cursor (h.names.most, h.reads.most, h.rows.most)

  of-sections : (#V #R #N #S : ℕ) → Laid words (layout #V #R #N #S) → sections words ≡ Ok (after_chosen #V #R #N #S)
  unfolding sections end_at
  of-sections #V #R #N #S h =
      let all = h.all_words in
      rw (
        of-names words #V #R #N #S h.names (omega arith),
        of-reads words #V #R #N #S h.reads (omega arith),
        of-rows words #V #R #N #S h.rows (omega arith),
        of-chosen words #V #R #N #S h.chosen (omega arith),
        le-ltb (#V + #R + 4 * #N + #S + 4) (length words) (omega arith),
      )

  sound-of : (s : Result Cursor Refusal) (l : Layout) → as_checked s ≡ Ok l → (d : Cursor) × (s ≡ Ok d) × (l ≡ layout d.variables d.reads d.rows d.count)
  sound-of (Err r) l e = let z : ◌≡◌ {A = ℕ} 0 1 = cc in absurd (omega arith)
  sound-of (Ok d) l e = (d, refl, (cc))

  -- words are sound exactly if they are laid out so
  pub accepted : (l : Layout) → checked words ≡ Ok l → Laid words l
  unfolding checked
  accepted l e =
      let a = sound-of (sections words) l e in
      let s = sections-of a.0 a.1 in
      rw (a.2, s.cursor) s.laid_out

  pub laid : (l : Layout) → Laid words l → checked words ≡ Ok l
  unfolding checked
  laid l h = rw h.of_counts (ap as_checked (of-sections l.variables l.reads l.rows l.chosen (rw h.of_counts at h)))
