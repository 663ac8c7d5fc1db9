-- The star of the innermost guard around a row, from the row right over it: the guards around a row are those around the row
-- over it, and that row itself where it is an exists or an IF and the row is past its star.
use Prim.Native.Nat.{ℕ, ◌+◌, ◌<◌, ◌≤◌}
use native.Mathlib.Omega.{arith}
use native.Mathlib.Nat.{eq-or-lt_of_le}
use mathlib.Core.Path.{◌≡◌, sym, ap, ◌∙◌}
use mathlib.Core.Bool.{false, ◌&&◌, and-false}
use mathlib.Core.Logic.{◌⊎◌}
use mathlib.Core.List.{List}
use lib.Dec.{ltb}
use borrow.Author.Tests.{ltb-true, lt-ltb, le-ltb}
use Rattle.paper.proofs.Bools.{pick, same_answer}
use Rattle.rows.specs.Rows.{kind_of, end_of}
use Rattle.rows.proofs.Meets.{lt-or-le}
use Rattle.rows.specs.Inside.Tree.{is_guarded, guard_of}
use Rattle.net.specs.Inside.Net.{Tree}
use Rattle.paper.proofs.Last.{after_is, after_more, after_same}
use Rattle.net.proofs.Climb.{Parent}

module _ (rows : List ℕ) (i : ℕ) where
  -- what is no guard around row i: a row of another kind, one right before it, one that ends before it
  other-kind : (a : ℕ) → kind_of rows a < 5 → is_guarded rows a i ≡ false
  other-kind a h = rw (le-ltb 4 (kind_of rows a) (omega arith))

  right-before : (a : ℕ) → i ≡ a + 1 → is_guarded rows a i ≡ false
  right-before a e = rw (le-ltb (a + 1) i (omega arith), and-false)

  ended-before : (a : ℕ) → end_of rows a ≤ i → is_guarded rows a i ≡ false
  ended-before a h = simp (le-ltb i (end_of rows a) h, and-false)

module _ (rows : List ℕ) (#N i top : ℕ) (t : Tree rows #N) (p : Parent rows i top) (h : i < #N) where
  -- row top is the innermost
  pub guard-here : 4 < kind_of rows top → top + 1 < i → guard_of rows i ≡ top + 1
  unfolding guard_of
  guard-here k l = after_is (λ a. is_guarded rows a i) i top record {
    below = omega arith;
    passes = simp (lt-ltb 4 (kind_of rows top) k, lt-ltb (top + 1) i l, lt-ltb i (end_of rows top) p.over);
    above = λ a b c. ended-before rows i a (p.reached.passed a b c);
  }

  -- a row before top is a guard around i just if it is one around top
  both-guarded : (a : ℕ) → a < top → is_guarded rows a i ≡ is_guarded rows a top
  both-guarded a b = pick (lt-or-le (kind_of rows a) 5) (λ k. other-kind rows i a k ∙ sym (other-kind rows top a k)) alike
    where
      alike : 5 ≤ kind_of rows a → is_guarded rows a i ≡ is_guarded rows a top
      alike k =
          let z = p.reached.below in
          let o = p.over in
          let w = t.nested.within a (omega arith) in
          let s : a + 1 < top = pick (eq-or-lt_of_le {n = a + 1} {m = top} (omega arith))
          (λ e. let e₁ = t.bare a (omega arith) (omega arith) in let e₂ = ap (end_of rows) e in absurd (omega arith)) (λ l. l) in
          simp (lt-ltb (a + 1) i (omega arith), lt-ltb (a + 1) top s)
          (ap (λ b. ltb 4 (kind_of rows a) && b)
          (same_answer (ltb i (end_of rows a)) (ltb top (end_of rows a))
          (λ e. let l = ltb-true i (end_of rows a) e in lt-ltb top (end_of rows a) (omega arith))
          (λ e. let l = ltb-true top (end_of rows a) e in let n = t.nested.nested a top b l w in lt-ltb i (end_of rows a) (omega arith))))

  -- it is not one of them
  pub guard-further : (kind_of rows top < 5) ⊎ (i ≡ top + 1) → guard_of rows i ≡ guard_of rows top
  unfolding guard_of
  guard-further d =
      after_more (λ a. is_guarded rows a i) top i (let z = p.reached.below in omega arith) none
      ∙ after_same (λ a. is_guarded rows a i) (λ a. is_guarded rows a top) top both-guarded
    where
      none : (a : ℕ) → top ≤ a → a < i → is_guarded rows a i ≡ false
      none a b c =
          pick (eq-or-lt_of_le b) (λ e. ap (λ x. is_guarded rows x i) (sym e) ∙ pick d (other-kind rows i top) (right-before rows i top))
          (λ l. ended-before rows i a (p.reached.passed a l c))
