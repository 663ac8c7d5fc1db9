-- Rows that write a formula lie as deep as the formula does: the depth by counting the rows around a row is the depth by
-- structure. Shown for a stretch of whole subtrees, built from none, from a row over its children, and from two in a row.
use Prim.Native.Nat.{ℕ, suc, ◌+◌, ◌<◌, ◌≤◌, max}
use native.Mathlib.Omega.{arith}
use native.Mathlib.Numerals.{add-one}
use native.Mathlib.Nat.{eq-or-lt_of_le}
use mathlib.Core.Path.{◌≡◌, refl, sym, subst, ap, ◌∙◌}
use mathlib.Core.Logic.{◌↔◌}
use mathlib.Core.List.{List}
use lib.ListN.{length, length-append}
use borrow.Author.Tests.{ltb-false, le-ltb}
use Rattle.paper.specs.Limits.{most_depth}
use Rattle.paper.proofs.Bools.{pick}
use Rattle.paper.specs.Formula.{Star, Formula, Formulas, FALSE, test, candidate, conjunction, disjunction, exists, IF, only, ◌⨾◌, labels, labels_of}
use Rattle.entries.specs.First.{first}
use Rattle.rows.specs.Rows.{end_of, round_of, depth_of, is_deep}
use Rattle.written.specs.Written.{taken_reads, size, depth, depth_of_all}
use Rattle.entries.proofs.First.{first-none, first-all}
use Rattle.rows.proofs.Meets.{lt-or-le}
use Rattle.rows.proofs.Depths.{round-in, rounds-out}
use Rattle.written.proofs.Writes.{StarIs, Writes, WritesAll}

module _ (rows : List ℕ) where
  -- of the rows before i, d hold each row from i on below z
  abbrev pub Around : ℕ → ℕ → ℕ → Type 0
  Around i z d = (k : ℕ) → i ≤ k → k < z → round_of rows k i ≡ d

  -- no row from i on below z lies deeper than b
  abbrev pub Shallow : ℕ → ℕ → ℕ → Type 0
  Shallow i z b = (j : ℕ) → i ≤ j → j < z → depth_of rows j ≤ b

  -- The rows from i on below z are whole subtrees, h levels deep: where d rows are around them, d + h is the least bound of
  -- their depths.
  pub record Levels (i z h : ℕ) : Type 0 where
    pub rises : i ≤ z
    pub ends : (j : ℕ) → i ≤ j → j < z → end_of rows j ≤ z
    pub bound : (d : ℕ) → Around i z d → Shallow i z (d + h)
    pub least : (d b : ℕ) → Around i z d → d ≤ b → Shallow i z b → d + h ≤ b

module _ {rows : List ℕ} where
  -- no row
  none : {i : ℕ} → Levels rows i i 0
  none = record {
    rises = omega arith;
    ends = λ j from below. absurd (omega arith);
    bound = λ d around j from below. absurd (omega arith);
    least = λ d b around le shallow. omega arith;
  }

  -- a row over its children
  over : {i z h : ℕ} → end_of rows i ≡ z → Levels rows (i + 1) z h → Levels rows i z (suc h)
  over {i} {z} {h} end inner = record {
    rises = omega arith;
    ends = λ j from below. pick (eq-or-lt_of_le from) (λ e. rw (sym e) (omega arith)) (λ l. inner.ends j (omega arith) below);
    bound = λ d around j from below.
        pick (eq-or-lt_of_le from)
        (λ e. rw (sym e) (let own = own-depth d around in omega arith))
        (λ l. let deepest = inner.bound (suc d) (inside d around) j (omega arith) below in omega arith);
    least = λ d b around le shallow.
        let own = own-depth d around in
        let top = shallow i (omega arith) (omega arith) in
        let rest = inner.least (suc d) b (inside d around) (omega arith) (λ j from below. shallow j (omega arith) below) in
        omega arith;
  }
    where
      inside : (d : ℕ) → Around rows i z d → Around rows (i + 1) z (suc d)
      inside d around k from below = ap (round_of rows k) (add-one i) ∙ round-in rows k i (omega arith) ∙ ap suc (around k (omega arith) below)

      own-depth : (d : ℕ) → Around rows i z d → depth_of rows i ≡ suc d
      own-depth d around = round-in rows i i (omega arith) ∙ ap suc (around i (omega arith) (omega arith))

  -- one stretch behind another
  then : {i m z a b : ℕ} → Levels rows i m a → Levels rows m z b → Levels rows i z (max a b)
  then {i} {m} {z} {a} {b} front back = record {
    rises = omega arith;
    ends = λ j from below. pick (lt-or-le j m) (λ l. let end = front.ends j from l in omega arith) (λ l. back.ends j l below);
    bound = λ d around j from below.
        pick (lt-or-le j m)
        (λ l. let deepest = front.bound d (at_front d around) j from l in omega arith)
        (λ l. let deepest = back.bound d (at_back d around) j l below in omega arith);
    least = λ d c around le shallow.
        let first = front.least d c (at_front d around) le (λ j from below. shallow j from (omega arith)) in
        let second = back.least d c (at_back d around) le (λ j from below. shallow j (omega arith) below) in
        omega arith;
  }
    where
      at_front : (d : ℕ) → Around rows i z d → Around rows i m d
      at_front d around k from below = around k from (omega arith)

      at_back : (d : ℕ) → Around rows i z d → Around rows m z d
      at_back d around k from below =
          rounds-out rows k i m front.rises (λ j since before. let end = front.ends j since before in omega arith) ∙ around k (omega arith) below

  -- the same end by another name
  ending : {i z y h : ℕ} → z ≡ y → Levels rows i z h → Levels rows i y h
  ending {i} {z} {y} {h} e l = subst (λ (x : ℕ). Levels rows i x h) e l

  -- a star
  a-star : {reads : List ℕ} {s : Star} {i t : ℕ} → StarIs rows reads s i t → Levels rows i (i + 1) 1
  a-star w = over w.row_is.end_is none

  -- a star before what is no shallower
  star-then : {reads : List ℕ} {s : Star} (i : ℕ) {t z h : ℕ}
      → StarIs rows reads s (i + 1) t → 1 ≤ h → Levels rows (i + 2) z h → Levels rows (i + 1) z h
  star-then i {z = z} w some l = subst (Levels rows (i + 1) z) (omega arith) (then (ending (omega arith) (a-star w)) l)

depth-some : (f : Formula) → 1 ≤ depth f
depth-some (FALSE l) = omega arith
depth-some (test s) = omega arith
depth-some (candidate l v s) = omega arith
depth-some (conjunction l fs) = omega arith
depth-some (disjunction l fs) = omega arith
depth-some (exists l s f) = omega arith
depth-some (IF l s f g) = omega arith

module _ (rows reads : List ℕ) where
  mutual
    pub levels : (f : Formula) (i t : ℕ) → Writes rows reads f i t → Levels rows i (i + size f) (depth f)
    levels (FALSE l) i t w = over w.1.end_is none
    levels (test s) i t w = a-star w
    levels (candidate l v s) i t w = over w.1.end_is (ending (omega arith) (a-star w.2))
    levels (conjunction l fs) i t w = ending (omega arith) (over w.1.end_is (levels-all fs (i + 1) t w.2))
    levels (disjunction l fs) i t w = ending (omega arith) (over w.1.end_is (levels-all fs (i + 1) t w.2))
    levels (exists l s f) i t w =
        ending (omega arith) (over w.1.end_is (star-then i w.2 (depth-some f) (levels f (i + 2) (t + length s.reads) w.3)))
    levels (IF l s f g) i t w =
        let some = depth-some f in
        let f-levels = levels f (i + 2) (t + length s.reads) w.3 in
        let g-levels = levels g (i + 2 + size f) (t + length s.reads + length (taken_reads f)) w.4 in
        ending (omega (arith, length-append (labels f) (labels g)))
        (over w.1.end_is (star-then i w.2 (omega arith) (then f-levels (ending (omega arith) g-levels))))

    pub levels-all : (fs : Formulas) (i t : ℕ) → WritesAll rows reads fs i t → Levels rows i (i + length (labels_of fs)) (depth_of_all fs)
    levels-all (only f) i t w = levels f i t w
    levels-all (f ⨾ fs) i t w =
        ending (omega (arith, length-append (labels f) (labels_of fs)))
        (then (levels f i t w.0) (levels-all fs (i + size f) (t + length (taken_reads f)) w.1))

  -- no row is deeper than 64 exactly if the formula is not
  pub written-depth : (f : Formula) (#N : ℕ) → Writes rows reads f 0 0 → size f ≡ #N → (first (is_deep rows) #N ≡ #N) ↔ (depth f ≤ most_depth)
  unfolding round_of
  written-depth f #N w e = (to, from)
    where
      whole : Levels rows 0 #N (depth f)
      whole = ending (omega arith) (levels f 0 0 w)

      alone : Around rows 0 #N 0
      alone k from below = refl

      to : first (is_deep rows) #N ≡ #N → depth f ≤ most_depth
      to passed =
          let z = whole.least 0 most_depth alone (omega arith)
          (λ j from below. ltb-false most_depth (depth_of rows j) (first-all (is_deep rows) #N passed j below)) in
          omega arith

      from : depth f ≤ most_depth → first (is_deep rows) #N ≡ #N
      from h = first-none (is_deep rows) #N (λ j below. le-ltb most_depth (depth_of rows j) (let z = whole.bound 0 alone j (omega arith) below in omega arith))
