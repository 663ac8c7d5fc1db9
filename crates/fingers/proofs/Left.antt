-- The new indices below n, and how they change when one of them gets a mark.
use Prim.Native.Nat.{ℕ, ◌+◌, ◌<◌, ◌≤◌}
use native.Mathlib.Omega.{arith}
use mathlib.Core.Path.{◌≡◌, refl, sym, subst, ap, ◌∙◌}
use mathlib.Core.Bool.{Bool, true, false, ◌&&◌, not}
use mathlib.Core.List.{List}
use lib.Dec.{eqb}
use lib.ListN.{length, get_or, set}
use lib.Seq.{get_or-set_same, get_or-set_other}
use borrow.Author.Tests.{eq-eqb, ne_eqb}
use Rattle.paper.proofs.UpTo.{in-up_to, length-up_to}
use Rattle.paper.specs.Lists.{those}
use Rattle.paper.proofs.Bools.{and_left}
use Rattle.paper.proofs.Lists.{those-le, those-lt, to-those, those-those, those-same}
use Rattle.paper.specs.Lists.{up_to}
use Rattle.fingers.specs.Inside.Graph.{free, left_of}
use Rattle.paper.proofs.Tests.{by-eq}

pub left-few : (n : ℕ) (mark : List ℕ) → 0 + length (left_of n mark) ≤ n
unfolding left_of
left-few n mark = let z = those-le (free mark) (up_to n) in omega (arith, length-up_to n)

-- a mark a is put at k, which was new: the new indices are those that were, without it
module _ (a : ℕ) (some : a ≡ 0 → ⊥) (k : ℕ) (mark : List ℕ) (long : k < length mark) where
  pub freed : (i : ℕ) → free (set mark k a) i ≡ (free mark i && not (eqb i k))
  unfolding free
  freed i =
      by-eq i k
      (λ e. ap (λ z. eqb z 0) (ap (λ z. get_or (set mark k a) z 0) e ∙ get_or-set_same mark k a 0 long) ∙ ne_eqb a 0 some
      ∙ sym (and_no (eqb (get_or mark i 0) 0) (eqb i k) (eq-eqb i k e)))
      (λ d. ap (λ z. eqb z 0) (get_or-set_other mark k i a 0 d) ∙ sym (and_yes (eqb (get_or mark i 0) 0) (eqb i k) (ne_eqb i k d)))
    where
      and_no : (a b : Bool) → b ≡ true → (a && not b) ≡ false
      and_no true b e = rw e
      and_no false b e = refl

      and_yes : (a b : Bool) → b ≡ false → (a && not b) ≡ a
      and_yes true b e = rw e
      and_yes false b e = refl

  pub was_free : (i : ℕ) → free (set mark k a) i ≡ true → free mark i ≡ true
  was_free i e = and_left _ (not (eqb i k)) (sym (freed i) ∙ e)

  pub left_after : (n : ℕ) → those (λ i. not (eqb i k)) (left_of n mark) ≡ left_of n (set mark k a)
  unfolding left_of
  left_after n =
      those-those (λ i. not (eqb i k)) (free mark) (up_to n)
      ∙ those-same (λ i. free mark i && not (eqb i k)) (free (set mark k a)) (up_to n) (λ i t. sym (freed i))

  pub left-shorter : (n : ℕ) → k < n → free mark k ≡ true → length (left_of n (set mark k a)) < length (left_of n mark)
  unfolding left_of
  left-shorter n h e =
      subst (λ l. length l < length (left_of n mark)) (left_after n)
      (those-lt (λ i. not (eqb i k)) (left_of n mark) k (to-those (free mark) (in-up_to n k h) e) (ap not (eq-eqb k k refl)))
