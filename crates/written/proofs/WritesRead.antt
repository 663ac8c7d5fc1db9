-- Fold back: of rows that write a formula, the formula read from them is that formula, if enough levels are allowed.
use Prim.Native.Nat.{ℕ, zero, suc, ◌+◌, ◌-◌, ◌<◌, ◌≤◌}
use native.Mathlib.Omega.{arith}
use mathlib.Core.Path.{◌≡◌, ap}
use mathlib.Core.List.{List}
use lib.ListN.{length, length-append}
use Rattle.paper.specs.Formula.{Star, Formula, Formulas, FALSE, test, candidate, conjunction, disjunction, exists, IF, only, ◌⨾◌}
use Rattle.rows.specs.Rows.{kind_of, end_of, form_of}
use Rattle.rows.specs.Formula.{star_at, children_at, node_at, formula_at}
use Rattle.written.specs.Written.{taken_reads, size, width, depth, depth_of_all}
use Rattle.written.proofs.Writes.{StarIs, Writes, WritesAll}

pub some-children : (fs : Formulas) → 0 < width fs
some-children (only f) = omega arith
some-children (f ⨾ fs) = omega arith

module _ (rows reads : List ℕ) where
  -- a formula ends behind its rows
  pub end-is-behind : (f : Formula) (i t : ℕ) → Writes rows reads f i t → end_of rows i ≡ i + size f
  end-is-behind (FALSE l) i t w = w.1.end_is
  end-is-behind (test s) i t w = w.row_is.end_is
  end-is-behind (candidate l v s) i t w = w.1.end_is
  end-is-behind (conjunction l fs) i t w = let e = w.1.end_is in omega arith
  end-is-behind (disjunction l fs) i t w = let e = w.1.end_is in omega arith
  end-is-behind (exists l s f) i t w = let e = w.1.end_is in omega arith
  end-is-behind (IF l s f g) i t w = let e = w.1.end_is in simp length-append (omega arith)

  star-read : (s : Star) (i t : ℕ) → StarIs rows reads s i t → star_at rows reads i ≡ s
  unfolding star_at
  star-read s i t w = rw (w.row_is.arg_is, w.row_is.from_is, ← w.reads_are, ← w.label_is)

  -- one level down
  level : (d i : ℕ) → 0 < d → formula_at rows reads d i ≡ node_at rows reads (formula_at rows reads (d - 1)) i (form_of (kind_of rows i))
  unfolding formula_at
  level zero i h = absurd (omega arith)
  level (suc d) i h = let e : suc d - 1 ≡ d = omega arith in rw e

  -- a child and those after it
  next-child : (at : ℕ → Formula) (m i : ℕ) → 0 < m → children_at rows reads at m i ≡ (at i ⨾ children_at rows reads at (m - 1) (end_of rows i))
  unfolding children_at
  next-child at zero i h = absurd (omega arith)
  next-child at (suc m) i h = let e : suc m - 1 ≡ m = omega arith in rw e

  mutual
    unfolding node_at form_of children_at

    pub formula-read : (f : Formula) (i t d : ℕ) → Writes rows reads f i t → depth f ≤ d → formula_at rows reads d i ≡ f
    formula-read (FALSE l) i t d w h = rw (level d i (omega arith), w.1.kind_is, w.0)
    formula-read (test s) i t d w h = rw (level d i (omega arith), w.row_is.kind_is, star-read s i t w)
    formula-read (candidate l v s) i t d w h = rw (level d i (omega arith), w.1.kind_is, w.1.arg_is, star-read s (i + 1) t w.2, w.0)
    formula-read (conjunction l fs) i t d w h =
        rw (level d i (omega arith), w.1.kind_is, w.1.arg_is, formulas-read fs (i + 1) t (d - 1) w.2 (omega arith), w.0)
    formula-read (disjunction l fs) i t d w h =
        rw (level d i (omega arith), w.1.kind_is, w.1.arg_is, formulas-read fs (i + 1) t (d - 1) w.2 (omega arith), w.0)
    formula-read (exists l s f) i t d w h =
        let e = formula-read f (i + 2) (t + length s.reads) (d - 1) w.3 (omega arith) in
        rw (level d i (omega arith), w.1.kind_is, star-read s (i + 1) t w.2, e, w.0)
    formula-read (IF l s f g) i t d w h =
        let u = t + length s.reads in
        let a = formula-read f (i + 2) u (d - 1) w.3 (omega arith) in
        let b = formula-read g (i + 2 + size f) (u + length (taken_reads f)) (d - 1) w.4 (omega arith) in
        rw (level d i (omega arith), w.1.kind_is, star-read s (i + 1) t w.2, a, end-is-behind f (i + 2) u w.3, b, w.0)

    formulas-read : (fs : Formulas) (i t d : ℕ) → WritesAll rows reads fs i t → depth_of_all fs ≤ d
        → children_at rows reads (formula_at rows reads d) (width fs - 1) i ≡ fs
    formulas-read (only f) i t d w h = ap only (formula-read f i t d w h)
    formulas-read (f ⨾ fs) i t d w h =
        let e : suc (width fs) - 1 ≡ width fs = omega arith in
        let a = formula-read f i t d w.0 (omega arith) in
        let b = formulas-read fs (i + size f) (t + length (taken_reads f)) d w.1 (omega arith) in
        rw (e, next-child (formula_at rows reads d) (width fs) i (some-children fs), a, end-is-behind f i t w.0, b)
