-- How far the cursor behind each section stands, and that the reads are what stands between two cursors.
use Prim.Native.Nat.{ℕ, ◌+◌, ◌-◌, ◌≤◌}
use native.Mathlib.Omega.{arith}
use mathlib.Core.List.{List}
use mathlib.Core.Path.{◌≡◌, ◌∙◌}
use lib.ListN.{length, take, drop, length-drop}
use lib.Seq.{length-take-le}
use Rattle.sections.specs.declared.Cursor.{Cursor}
use Rattle.table.specs.Table.{reads_of}
use Rattle.table.proofs.PassedSections.{NamesPassed, ReadsPassed, RowsPassed, ChosenPassed}

module _ (words : List ℕ) where
  -- how far a cursor behind a section stands
  pub record InReach (d : Cursor) : Type 0 where
    pub near : d.at ≤ 65536
    pub within : d.at ≤ length words

  module _ {a : Cursor} (p : NamesPassed words a) where
    pub names-reach : InReach a
    names-reach = let v = (p.holds.1 0 0 0).most in let z = p.holds.0 in rw p.cursor (record { near = omega arith; within = omega arith })

    module _ {b : Cursor} (q : ReadsPassed words p.count b) where
      pub reads-reach : InReach b
      reads-reach =
          let v = (p.holds.1 0 0 0).most in let w = (q.holds.1 0 0).most in let z = q.holds.0 in
          rw q.cursor (record { near = omega arith; within = omega arith })

      -- the reads are what stands between the two count words
      pub reads-between : b.at ≡ a.at + 1 + b.reads
      reads-between = rw (p.cursor, q.cursor) (omega arith)

      pub between-reads : take (b.at - (a.at + 1)) (drop (a.at + 1) words) ≡ reads_of words b
      between-reads =
          let e = reads-between in
          let n : b.at - (a.at + 1) ≡ b.reads = omega arith in
          let k : b.at - b.reads ≡ a.at + 1 = omega arith in
          rw (n, k)

      pub length-between : length (take (b.at - (a.at + 1)) (drop (a.at + 1) words)) ≡ b.reads
      length-between =
          let e = reads-between in
          let s = reads-reach in
          length-take-le (b.at - (a.at + 1)) (drop (a.at + 1) words) (omega (arith, length-drop (a.at + 1) words)) ∙ omega arith

      module _ {c : Cursor} (r : RowsPassed words p.count q.count c) where
        pub rows-reach : InReach c
        rows-reach =
            let v = (p.holds.1 0 0 0).most in let w = (q.holds.1 0 0).most in let x = (r.holds.1 0).most in let z = r.holds.0 in
            rw r.cursor (record { near = omega arith; within = omega arith })

        module _ {d : Cursor} (s : ChosenPassed words p.count q.count r.count d) where
          pub chosen-reach : InReach d
          chosen-reach =
              let v = (p.holds.1 0 0 0).most in let w = (q.holds.1 0 0).most in let x = (r.holds.1 0).most in
              let y = s.holds.1.most in let z = s.holds.0 in
              rw s.cursor (record { near = omega arith; within = omega arith })
