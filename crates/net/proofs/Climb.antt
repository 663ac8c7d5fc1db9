-- The row right over a row: on the way up, from row to row right over it, no row is passed that is over the row below, so
-- that the first one found over it is the last.
use Prim.Native.Nat.{ℕ, ◌-◌, ◌<◌, ◌≤◌}
use native.Mathlib.Omega.{arith}
use native.Mathlib.Nat.{eq-or-lt_of_le}
use mathlib.Core.Path.{◌≡◌, ap, ◌∙◌, subst⁻¹}
use mathlib.Core.Bool.{true, false, and-false}
use mathlib.Core.List.{List}
use lib.ListN.{get_or}
use lib.Dec.{leb}
use borrow.Author.Tests.{ltb-true, ltb-false, leb-true, lt-ltb, le-ltb, le-leb}
use Rattle.paper.proofs.Bools.{and_left, and_right, both, pick}
use Rattle.rows.specs.Rows.{end_of}
use Rattle.rows.proofs.Meets.{lt-or-le}
use Rattle.rows.specs.Inside.Tree.{is_under, parent_of}
use Rattle.net.specs.Inside.Net.{Tree}
use Rattle.paper.proofs.Last.{last-is, last-of}

module _ (rows : List ℕ) where
  -- row i lies in the subtree of row a, or not
  pub under : (a i : ℕ) → a ≤ i → i < end_of rows a → is_under rows a i ≡ true
  under a i h k = both (leb a i) _ (le-leb a i h) (lt-ltb i (end_of rows a) k)

  pub under-from : (a i : ℕ) → is_under rows a i ≡ true → a ≤ i
  under-from a i e = leb-true a i (and_left (leb a i) _ e)

  pub under_to : (a i : ℕ) → is_under rows a i ≡ true → i < end_of rows a
  under_to a i e = ltb-true i (end_of rows a) (and_right (leb a i) _ e)

  pub not-under : (a i : ℕ) → end_of rows a ≤ i → is_under rows a i ≡ false
  not-under a i h = simp (le-ltb i (end_of rows a) h, and-false)

  pub under-not : (a i : ℕ) → is_under rows a i ≡ false → a ≤ i → end_of rows a ≤ i
  under-not a i e h = ltb-false i (end_of rows a) (rw (le-leb a i h) at e)

  -- row a is before row i, and no row between them is over i
  pub record Reached (i a : ℕ) : Type 0 where
    pub below : a < i
    pub passed : (b : ℕ) → a < b → b < i → end_of rows b ≤ i

  -- row a is right over row i
  pub record Parent (i a : ℕ) : Type 0 where
    pub reached : Reached i a
    pub over : i < end_of rows a

  -- the way up begins at the row before, and goes on from a row that is not over i to the row right over that one
  pub reached-first : (i : ℕ) → 0 < i → Reached i (i - 1)
  reached-first i h = record { below = omega arith; passed = λ b a c. absurd (omega arith) }

  pub reached-next : {i a b : ℕ} → Reached i a → end_of rows a ≤ i → Parent a b → Reached i b
  reached-next {i} {a} {b} r h p = record {
    below = let z = p.reached.below in let w = r.below in omega arith;
    passed = λ d l m. pick (lt-or-le d a) (λ k. let z = p.reached.passed d l k in let w = r.below in omega arith) (λ k. from-a d k m);
  }
    where
      from-a : (d : ℕ) → a ≤ d → d < i → end_of rows d ≤ i
      from-a d k m = pick (eq-or-lt_of_le k) (λ e. let z = ap (end_of rows) e in omega arith) (λ l. r.passed d l m)

  pub parent_is : (i a : ℕ) → Parent i a → parent_of rows i ≡ a
  unfolding parent_of
  parent_is i a p = last-is (λ b. is_under rows b i) 0 i a record {
    below = p.reached.below;
    passes = under a i (let z = p.reached.below in omega arith) p.over;
    above = λ b h k. not-under b i (p.reached.passed b h k);
  }

  -- every row but the first has one over it, since the first is over all
  pub parent-of : (#N i : ℕ) → Tree rows #N → 0 < i → i < #N → Parent i (parent_of rows i)
  unfolding parent_of
  parent-of #N i t h k =
      let l = last-of (λ b. is_under rows b i) 0 i 0 h (under 0 i (omega arith) (let z = t.whole in omega arith)) in
      record {
        reached = record {
          below = l.below;
          passed = λ b a c. under-not b i (l.above b a c) (omega arith);
        };
        over = under_to (parent_of rows i) i l.passes;
      }

  pub parent_by : (#N i a : ℕ) → Tree rows #N → 0 < i → i < #N → a ≡ parent_of rows i → Parent i a
  parent_by #N i a t h k e = subst⁻¹ (Parent i) e (parent-of #N i t h k)

  -- the way up from row i, at row a, which is not over it: the row noted for a is right over it
  pub parent-noted : (#N i a b : ℕ) (words : List ℕ) → Tree rows #N → i < #N → ((j : ℕ) → 0 < j → j < i → get_or words j 0 ≡ parent_of rows j)
      → Reached i a → end_of rows a ≤ i → b ≡ get_or words a 0 → Parent a b
  parent-noted #N i a b words t h noted r e q =
      let l = r.below in parent_by #N a b t some (omega arith) (q ∙ noted a some l)
    where
      some : 0 < a
      some = pick (lt-or-le 0 a) (λ k. k) (λ k. let z : a ≡ 0 = omega arith in let w = ap (end_of rows) z in let s = t.whole in absurd (omega arith))
