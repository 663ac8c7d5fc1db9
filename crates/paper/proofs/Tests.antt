-- Cases of tests and of numbers, and a list with one element set.
use Prim.Native.Nat.{ℕ, ◌<◌, ◌≤◌}
use mathlib.Core.Path.{◌≡◌, refl, sym, subst, ap, ◌∙◌}
use mathlib.Core.Bool.{Bool, true, false, true≢false}
use mathlib.Core.List.{List}
use lib.Dec.{eqb, ltb}
use lib.ListN.{length, get_or, set}
use lib.Seq.{get_or-set_same, get_or-set_other}
use borrow.Author.Tests.{eqb-true, eqb-false, ltb-true, ltb-false}

-- a Bool is one of two; two numbers are one or not; one is below the other or not
pub by : {P : Type 0} (t : Bool) → (t ≡ true → P) → (t ≡ false → P) → P
by true y n = y refl
by false y n = n refl

pub by-eq : {P : Type 0} (a b : ℕ) → (a ≡ b → P) → ((a ≡ b → ⊥) → P) → P
by-eq a b y n = by (eqb a b) (λ e. y (eqb-true a b e)) (λ e. n (eqb-false a b e))

pub by-lt : {P : Type 0} (a b : ℕ) → (a < b → P) → (b ≤ a → P) → P
by-lt a b y n = by (ltb a b) (λ e. y (ltb-true a b e)) (λ e. n (ltb-false a b e))

pub never : {P : Type 0} (t : Bool) → t ≡ true → t ≡ false → P
never t a b = absurd (true≢false (sym a ∙ b))

-- what stands at j after a store at k
pub at_set : (l : List ℕ) (k a : ℕ) → k < length l → (P : ℕ → Type 0) → (j : ℕ) → (j ≡ k → P a) → ((j ≡ k → ⊥) → P (get_or l j 0)) → P (get_or (set l k a) j 0)
at_set l k a h P j y z =
    by-eq j k
    (λ q. subst P (sym (ap (λ (i : ℕ). get_or (set l k a) i 0) q ∙ get_or-set_same l k a 0 h)) (y q))
    (λ q. subst P (sym (get_or-set_other l k j a 0 q)) (z q))
