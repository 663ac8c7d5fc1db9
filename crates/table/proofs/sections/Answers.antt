-- Each section passes its cursor to the next, as in the definition; the part from the cursor on is what the section is lent.
use Prim.Native.Nat.{ℕ, ◌+◌, ◌-◌}
use lib.ListN.{length, take, drop}
use native.Mathlib.Omega.{arith}
use mathlib.Core.List.{List}
use mathlib.Core.Path.{◌≡◌, sym, ◌∙◌}
use Rattle.sections.specs.declared.Cursor.{Cursor}
use Rattle.sections.specs.Sections.{start, variables_at, reads_at, rows_at, strategy_at}
use Rattle.table.specs.Table.{part_at, reads_of, sections}
use Rattle.rows.proofs.Rules.{rest}
use Rattle.table.proofs.PassedSections.{NamesPassed, ReadsPassed, RowsPassed, names_of, reads-of, rows_of, chosen_of}
use Rattle.table.proofs.Reach.{InReach, names-reach, reads-reach, reads-between, between-reads, length-between, rows-reach, chosen-reach}
use Rattle.table.proofs.sections.Goals as goal
use Rattle.std.specs.Prelude.{Result, Ok}
use Rattle.paper.specs.declared.Refusal.{Refusal}

-- the sections that passed, one after another, and how far their cursors stand
module _ (words : List ℕ) where
  record One (a : Cursor) : Type 0 where
    pub came : variables_at words start ≡ Ok a
    pub passed : NamesPassed words a
    pub reach : InReach words a

  record Two (a b : Cursor) : Type 0 where
    pub before : One a
    pub came : reads_at (part_at words a) a ≡ Ok b
    pub passed : ReadsPassed words before.passed.count b
    pub reach : InReach words b
    pub between : b.at ≡ a.at + 1 + b.reads

  record Three (a b c : Cursor) : Type 0 where
    pub before : Two a b
    pub came : rows_at (part_at words b) (reads_of words b) b ≡ Ok c
    pub passed : RowsPassed words before.before.passed.count before.passed.count c
    pub reach : InReach words c

  record Four (a b c d : Cursor) : Type 0 where
    pub before : Three a b c
    pub came : strategy_at (part_at words c) c ≡ Ok d
    pub reach : InReach words d

module _ {words : List ℕ} {r : Result Cursor Refusal} where
  one : {s a : Cursor} → s ≡ start → r ≡ variables_at words s → r ≡ Ok a → One words a
  one {s} {a} e f g =
      let came : variables_at words start ≡ Ok a = cc in
      let p = names_of words a came in
      record { came = came; passed = p; reach = names-reach words p }

  two : {a b : Cursor} → One words a → r ≡ reads_at (part_at words a) a → r ≡ Ok b → Two words a b
  two o f g =
      let came = sym f ∙ g in
      let p = reads-of words _ _ _ o.passed.cursor came in
      record { before = o; came = came; passed = p; reach = reads-reach words o.passed p; between = reads-between words o.passed p }

  three : {a b c : Cursor} → Two words a b → r ≡ rows_at (part_at words b) (reads_of words b) b → r ≡ Ok c → Three words a b c
  three t f g =
      let came = sym f ∙ g in
      let p = rows_of words _ _ _ _ t.passed.cursor came in
      record { before = t; came = came; passed = p; reach = rows-reach words t.before.passed t.passed p }

  four : {a b c d : Cursor} → Three words a b c → r ≡ strategy_at (part_at words c) c → r ≡ Ok d → Four words a b c d
  four t f g =
      let came = sym f ∙ g in
      let p = chosen_of words _ _ _ _ _ t.passed.cursor came in
      record { before = t; came = came; reach = chosen-reach words t.before.before.passed t.before.passed t.passed p }

-- the reads that section 3 is lent are those of the definition
module _ {words : List ℕ} {a b : Cursor} (t : Two words a b) where
  lent-reads : take (b.at - (a.at + 1)) (drop (a.at + 1) words) ≡ reads_of words b
  lent-reads = between-reads words t.before.passed t.passed

  lent-length : length (take (b.at - (a.at + 1)) (drop (a.at + 1) words)) ≡ b.reads
  lent-length = length-between words t.before.passed t.passed

pub returns-in_default : goal.returns-in_default
unfolding sections
returns-in_default c = simp (← c.new-start.ensures, ← c.variables-first.ensures, c.in_default.is)

pub offset_bounds-words-a : goal.offset_bounds-words-a
offset_bounds-words-a c =
    let p = one c.new-start.ensures c.variables-first.ensures c.in-Ok.is in
    let h = p.reach in
    omega arith

pub slice_bounds-reads-count : goal.slice_bounds-reads-count
slice_bounds-reads-count c =
    let p = one c.new-start.ensures c.variables-first.ensures c.in-Ok.is in
    let h = p.reach in
    omega arith

pub slice_bounds-reads-start : goal.slice_bounds-reads-start
slice_bounds-reads-start c =
    let p = one c.new-start.ensures c.variables-first.ensures c.in-Ok.is in
    let h = p.reach in
    omega arith

pub reads-second-requires : goal.reads-second-requires
reads-second-requires c =
    let p = one c.new-start.ensures c.variables-first.ensures c.in-Ok.is in
    p.reach.near

pub returns-in_default-second : goal.returns-in_default-second
unfolding sections
returns-in_default-second c =
    let p = one c.new-start.ensures c.variables-first.ensures c.in-Ok.is in
    let f = simp rest at c.reads-second.ensures in
    rw p.came (simp (← f, c.in_default-second.is))

pub offset_bounds-words-b : goal.offset_bounds-words-b
offset_bounds-words-b c =
    let p = one c.new-start.ensures c.variables-first.ensures c.in-Ok.is in
    let q = two p (simp rest at c.reads-second.ensures) c.in-Ok-second.is in
    let h = q.reach in
    omega arith

pub slice_bounds-rows-count : goal.slice_bounds-rows-count
slice_bounds-rows-count c =
    let p = one c.new-start.ensures c.variables-first.ensures c.in-Ok.is in
    let q = two p (simp rest at c.reads-second.ensures) c.in-Ok-second.is in
    let h = q.reach in
    omega arith

pub slice_bounds-rows-start : goal.slice_bounds-rows-start
slice_bounds-rows-start c =
    let p = one c.new-start.ensures c.variables-first.ensures c.in-Ok.is in
    let q = two p (simp rest at c.reads-second.ensures) c.in-Ok-second.is in
    let h = q.reach in
    omega arith

pub overflow_add-a : goal.overflow_add-a
overflow_add-a c =
    let p = one c.new-start.ensures c.variables-first.ensures c.in-Ok.is in
    let h = p.reach in
    omega arith

pub offset_bounds-words-a-2 : goal.offset_bounds-words-a-2
offset_bounds-words-a-2 c =
    let p = one c.new-start.ensures c.variables-first.ensures c.in-Ok.is in
    let h = p.reach in
    omega arith

pub slice_bounds-rows-count-2 : goal.slice_bounds-rows-count-2
slice_bounds-rows-count-2 c =
    let p = one c.new-start.ensures c.variables-first.ensures c.in-Ok.is in
    let q = two p (simp rest at c.reads-second.ensures) c.in-Ok-second.is in
    let e = q.between in
    omega arith

pub slice_bounds-rows-start-2 : goal.slice_bounds-rows-start-2
slice_bounds-rows-start-2 c =
    let p = one c.new-start.ensures c.variables-first.ensures c.in-Ok.is in
    let q = two p (simp rest at c.reads-second.ensures) c.in-Ok-second.is in
    let e = q.between in
    omega arith

pub slice_bounds-rows-end-2 : goal.slice_bounds-rows-end-2
slice_bounds-rows-end-2 c =
    let p = one c.new-start.ensures c.variables-first.ensures c.in-Ok.is in
    let q = two p (simp rest at c.reads-second.ensures) c.in-Ok-second.is in
    let h = q.reach in
    omega arith

pub rows-third-requires : goal.rows-third-requires
rows-third-requires c =
    let p = one c.new-start.ensures c.variables-first.ensures c.in-Ok.is in
    let q = two p (simp rest at c.reads-second.ensures) c.in-Ok-second.is in
    (q.reach.near, lent-length q)

pub returns-in_default-third : goal.returns-in_default-third
unfolding sections
returns-in_default-third c =
    let p = one c.new-start.ensures c.variables-first.ensures c.in-Ok.is in
    let q = two p (simp rest at c.reads-second.ensures) c.in-Ok-second.is in
    let f = simp (rest, lent-reads q) at c.rows-third.ensures in
    rw (p.came, q.came) (simp (← f, c.in_default-third.is))

pub offset_bounds-words-c : goal.offset_bounds-words-c
offset_bounds-words-c c =
    let p = one c.new-start.ensures c.variables-first.ensures c.in-Ok.is in
    let q = two p (simp rest at c.reads-second.ensures) c.in-Ok-second.is in
    let r = three q (simp (rest, lent-reads q) at c.rows-third.ensures) c.in-Ok-third.is in
    let h = r.reach in
    omega arith

pub slice_bounds-strategy-count : goal.slice_bounds-strategy-count
slice_bounds-strategy-count c =
    let p = one c.new-start.ensures c.variables-first.ensures c.in-Ok.is in
    let q = two p (simp rest at c.reads-second.ensures) c.in-Ok-second.is in
    let r = three q (simp (rest, lent-reads q) at c.rows-third.ensures) c.in-Ok-third.is in
    let h = r.reach in
    omega arith

pub slice_bounds-strategy-start : goal.slice_bounds-strategy-start
slice_bounds-strategy-start c =
    let p = one c.new-start.ensures c.variables-first.ensures c.in-Ok.is in
    let q = two p (simp rest at c.reads-second.ensures) c.in-Ok-second.is in
    let r = three q (simp (rest, lent-reads q) at c.rows-third.ensures) c.in-Ok-third.is in
    let h = r.reach in
    omega arith

pub strategy-fourth-requires : goal.strategy-fourth-requires
strategy-fourth-requires c =
    let p = one c.new-start.ensures c.variables-first.ensures c.in-Ok.is in
    let q = two p (simp rest at c.reads-second.ensures) c.in-Ok-second.is in
    let r = three q (simp (rest, lent-reads q) at c.rows-third.ensures) c.in-Ok-third.is in
    r.reach.near

pub returns-in_default-fourth : goal.returns-in_default-fourth
unfolding sections
returns-in_default-fourth c =
    let p = one c.new-start.ensures c.variables-first.ensures c.in-Ok.is in
    let q = two p (simp rest at c.reads-second.ensures) c.in-Ok-second.is in
    let r = three q (simp (rest, lent-reads q) at c.rows-third.ensures) c.in-Ok-third.is in
    let f = simp rest at c.strategy-fourth.ensures in
    rw (p.came, q.came, r.came) (simp (← f, c.in_default-fourth.is))

pub end-requires : goal.end-requires
end-requires c =
    let p = one c.new-start.ensures c.variables-first.ensures c.in-Ok.is in
    let q = two p (simp rest at c.reads-second.ensures) c.in-Ok-second.is in
    let r = three q (simp (rest, lent-reads q) at c.rows-third.ensures) c.in-Ok-third.is in
    let s = four r (simp rest at c.strategy-fourth.ensures) c.in-Ok-fourth.is in
    s.reach.near

pub returns : goal.returns
unfolding sections
returns c =
    let p = one c.new-start.ensures c.variables-first.ensures c.in-Ok.is in
    let q = two p (simp rest at c.reads-second.ensures) c.in-Ok-second.is in
    let r = three q (simp (rest, lent-reads q) at c.rows-third.ensures) c.in-Ok-third.is in
    let s = four r (simp rest at c.strategy-fourth.ensures) c.in-Ok-fourth.is in
    rw (p.came, q.came, r.came, s.came) c.end.ensures
