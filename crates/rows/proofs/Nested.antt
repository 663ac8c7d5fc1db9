-- Rows that keep their rules lie within one another or apart: the children of a row step by end words from the next row to
-- its end, so a row below it lies in the subtree of one child, and that child is nearer to it.
use Prim.Native.Nat.{ℕ, zero, suc, ◌+◌, ◌*◌, ◌<◌, ◌≤◌}
use native.Mathlib.Omega.{arith}
use native.Mathlib.Nat.{eq-or-lt_of_le}
use mathlib.Core.Path.{◌≡◌, ap, subst}
use mathlib.Core.Bool.{true}
use mathlib.Core.List.{List}
use lib.ListN.{length}
use Rattle.paper.specs.Limits.{most_rows}
use Rattle.paper.proofs.Bools.{pick}
use Rattle.rows.specs.Rows.{kind_of, end_of, form_of, meets, keeps_rules}
use Rattle.rows.specs.Inside.Looks.{Nested}
use Rattle.rows.proofs.Meets.{child, meets-le, Holder, holder-of}
use Rattle.rows.proofs.Rules.{star-form, Guards, Says, children-meet, kept}

module _ (rows reads : List ℕ) (#V #N : ℕ) (keep : (i : ℕ) → i < #N → keeps_rules rows reads #V #N i ≡ true) where
  children-of : (i : ℕ) → i < #N → (m : ℕ) × (meets rows (end_of rows i) (i + 1) m ≡ true)
  children-of i h = children-meet rows reads #V i (form_of (kind_of rows i)) (kept rows reads #V #N i (keep i h)).says

  pub rows-rise : (i : ℕ) → i < #N → i < end_of rows i
  rows-rise i h = let (m, e) = children-of i h in let z = meets-le rows (end_of rows i) m (i + 1) e in omega arith

  -- a row j below row i, by a bound on how far
  ends-inside : (b i j : ℕ) → i < #N → i < j → j < end_of rows i → j ≤ i + b → end_of rows j ≤ end_of rows i
  ends-inside zero i j h below in-i near = absurd (omega arith)
  ends-inside (suc b) i j h below in-i near =
      let (m, e) = children-of i h in
      let n = (kept rows reads #V #N i (keep i h)).within in
      let c = holder-of rows (end_of rows i) m (i + 1) j e (omega arith) in-i in
      pick (eq-or-lt_of_le c.not_after) (same c)
      (λ l. let z = ends-inside b c.holder j (omega arith) l c.holds (omega arith) in omega arith)
    where
      same : (c : Holder rows (end_of rows i) (i + 1) j) → c.holder ≡ j → end_of rows j ≤ end_of rows i
      same c e = let z = ap (end_of rows) e in omega arith

  -- a star ends at the next row; so past a guard star stand the other children
  star-ends : (i : ℕ) → i < #N → kind_of rows i ≡ 1 → end_of rows i ≡ i + 1
  star-ends i h k = let s = subst (Says rows reads #V i) (star-form (kind_of rows i) k) (kept rows reads #V #N i (keep i h)).says in s.ends

  pub past-guard : (i m : ℕ) → i < #N → Guards rows i (suc m) → meets rows (end_of rows i) (i + 2) m ≡ true
  past-guard i m h g =
      let c = child rows (end_of rows i) (i + 1) m g.meet in
      let n = (kept rows reads #V #N i (keep i h)).within in
      let e = star-ends (i + 1) (omega arith) g.star in
      let q : end_of rows (i + 1) ≡ i + 2 = omega arith in
      subst (λ k. meets rows (end_of rows i) k m ≡ true) q c.others

  pub nested : 4 * #N ≤ length rows → #N ≤ most_rows → Nested rows #N
  nested room few = record {
    room = room;
    few = few;
    rises = rows-rise;
    within = λ i h. (kept rows reads #V #N i (keep i h)).within;
    nested = λ i j below in-i in-n. ends-inside j i j (omega arith) below in-i (omega arith);
  }
