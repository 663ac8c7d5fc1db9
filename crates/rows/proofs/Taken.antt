-- The reads that the stars of rows take, one row after another, and that they are there where the rows keep their rules.
use Prim.Native.Nat.{ℕ, zero, suc, ◌+◌, ◌<◌, ◌≤◌}
use native.Mathlib.Omega.{arith}
use native.Mathlib.Nat.{le_refl}
use native.Mathlib.Numerals.{add-one}
use mathlib.Core.Path.{◌≡◌, refl, subst}
use mathlib.Core.Bool.{Bool, true, false}
use mathlib.Core.Logic.{◌⊎◌, inl, inr}
use mathlib.Core.List.{List}
use lib.ListN.{length, length-drop}
use lib.Dec.{eqb}
use borrow.Author.Tests.{eqb-true, eqb-false}
use Rattle.paper.proofs.Bools.{pick}
use Rattle.rows.specs.Rows.{kind_of, arg_of, from_of, form_of, takes, taken_before, keeps_rules}
use Rattle.rows.specs.declared.form.Form.{Form}
use Rattle.rows.specs.declared.form.Form.TheVariants as form
use Rattle.rows.proofs.Forms.{by_form}
use Rattle.rows.proofs.Rules.{star-form, StarSays, Says, kept}

-- a row that is no star takes no reads
pub takes_none : (k arg : ℕ) → (k ≡ 1 → ⊥) → takes (form_of k) arg ≡ 0
takes_none k arg h =
    by_form (λ F. takes F arg ≡ 0) k (λ e. refl) (λ e. absurd (h e)) (λ e. refl) (λ e. refl) (λ e. refl) (λ e. refl) (λ e. refl) (λ e. refl)

-- and a star its arg
pub takes_star : {F : Form} (arg : ℕ) → F ≡ form.Star → takes F arg ≡ arg
takes_star arg e = rw e

star-or-none : (k : ℕ) → (k ≡ 1) ⊎ ((arg : ℕ) → takes (form_of k) arg ≡ 0)
star-or-none k = either (eqb k 1) refl
  where
    either : (b : Bool) → eqb k 1 ≡ b → (k ≡ 1) ⊎ ((arg : ℕ) → takes (form_of k) arg ≡ 0)
    either true e = inl (eqb-true k 1 e)
    either false e = inr (λ arg. takes_none k arg (eqb-false k 1 e))

-- so a row no more than its arg
pub takes-le : (k arg : ℕ) → takes (form_of k) arg ≤ arg
unfolding form_of
takes-le k arg = pick (star-or-none k) (λ e. rw e (le_refl arg)) (λ z. omega (arith, z arg))

-- one more row
module _ (rows : List ℕ) where
  pub taken_next : (i : ℕ) {F : Form} {arg : ℕ} → form_of (kind_of rows i) ≡ F → arg_of rows i ≡ arg
      → taken_before rows (i + 1) ≡ taken_before rows i + takes F arg
  unfolding taken_before
  taken_next i e a = rw (add-one i, e, a)

  pub taken_more : (i taken more : ℕ) → taken ≡ taken_before rows i → more ≡ takes (form_of (kind_of rows i)) (arg_of rows i)
      → taken + more ≡ taken_before rows (i + 1)
  taken_more i taken more d e = rw (taken_next i refl refl, d, e)

module _ (rows reads : List ℕ) (#V #N : ℕ) where
  -- the reads that a row takes are there, where those before it are
  pub takes-there : (i : ℕ) → keeps_rules rows reads #V #N i ≡ true → taken_before rows i ≤ length reads → taken_before rows (i + 1) ≤ length reads
  takes-there i e h = rw (taken_next rows i refl refl) (pick (star-or-none (kind_of rows i)) star (λ z. omega (arith, z (arg_of rows i))))
    where
      star : kind_of rows i ≡ 1 → taken_before rows i + takes (form_of (kind_of rows i)) (arg_of rows i) ≤ length reads
      star k =
          let f = star-form (kind_of rows i) k in
          let r = kept rows reads #V #N i e in
          let s : StarSays rows reads i = subst (Says rows reads #V i) f r.says in
          rw f (omega (arith, length-drop (from_of rows i) reads))

  -- so where all rows keep their rules, all reads that they take are there
  pub taken-there : (n : ℕ) → ((i : ℕ) → i < n → keeps_rules rows reads #V #N i ≡ true) → taken_before rows n ≤ length reads
  unfolding taken_before
  taken-there zero e = omega arith
  taken-there (suc n) e = rw add-one at (takes-there n (e n (omega arith)) (taken-there n (λ i h. e i (omega arith))))
