-- What holds of the form of a kind word, by the eight cases of the word.
use Prim.Native.Nat.{ℕ, ◌<◌, ◌≤◌}
use native.Mathlib.Omega.{arith}
use mathlib.Core.Path.{◌≡◌, refl}
use mathlib.Core.Bool.{Bool, true, false, cond}
use lib.Dec.{eqb}
use borrow.Author.Tests.{eqb-true, eqb-false}
use Rattle.rows.specs.Rows.{form_of}
use Rattle.rows.specs.declared.form.Form.{Form}
use Rattle.rows.specs.declared.form.Form.TheVariants as form

module _ (P : Form → Type 0) (k : ℕ) where
  -- a word that is n or more is n, or above it
  by-test : (n : ℕ) {f g : Form} → n ≤ k → (k ≡ n → P f) → (n < k → P g) → P (cond (eqb k n) f g)
  by-test n {f} {g} low so above = go (eqb k n) refl
    where
      go : (t : Bool) → eqb k n ≡ t → P (cond t f g)
      go true e = so (eqb-true k n e)
      go false e = let apart = eqb-false k n e in above (omega arith)

  pub by_form : (k ≡ 0 → P form.False) → (k ≡ 1 → P form.Star) → (k ≡ 2 → P form.Candidate) → (k ≡ 3 → P form.Conjunction)
      → (k ≡ 4 → P form.Disjunction) → (k ≡ 5 → P form.Exists)
      → (k ≡ 6 → P form.If) → (6 < k → P form.Unknown) → P (form_of k)
  unfolding form_of
  by_form a b c d e f g none =
      by-test 0 (omega arith) a (λ h. by-test 1 h b (λ h. by-test 2 h c (λ h. by-test 3 h d
      (λ h. by-test 4 h e (λ h. by-test 5 h f (λ h. by-test 6 h g none))))))
