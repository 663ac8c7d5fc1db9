-- What holds at each label below #N holds at the leaves of the formula that #N rows write: by induction over the levels left,
-- since a walk can stand at each expression under a row that it stands at.
use Prim.Native.Nat.{ℕ, zero, suc, ◌-◌, ◌<◌}
use native.Mathlib.Omega.{arith}
use native.Mathlib.Numerals.{sub-one}
use mathlib.Core.List.{List}
use Rattle.paper.specs.declared.Label.{Label}
use Rattle.paper.specs.Formula.{ℓ, Formula}
use Rattle.paper.proofs.Folds.{AtLeaves, AtLeavesOf}
use Rattle.rows.specs.Rows.{kind_of, arg_of, end_of, form_of}
use Rattle.rows.specs.Formula.{star_at, children_at, node_at, formula_at}
use Rattle.rows.specs.Inside.Walk.{expressions, first_under, Walkable}
use Rattle.rows.proofs.Forms.{by_form}
use Rattle.rows.proofs.Walks.{Along, along_under, along-on, along-next}

module _ (rows reads : List ℕ) {#N : ℕ} (P : Label → Type 0) (each : (l : ℕ) → l < #N → P (ℓ l)) where
  abbrev Leaves : Formula → Type 0
  Leaves = AtLeaves P P (λ l v. P l)

  -- so many children and one more, each at a row where a walk can stand
  children-hold : (at : ℕ → Formula) → ((j : ℕ) → Walkable rows #N j → Leaves (at j)) → (more i : ℕ) → Along rows #N (suc more) i
      → AtLeavesOf P P (λ l v. P l) (children_at rows reads at more i)
  unfolding children_at
  children-hold at so zero i a = so i (along-on a (omega arith))
  children-hold at so (suc more) i a =
      let on : 0 < suc (suc more) = omega arith in
      (so i (along-on a on), children-hold at so more (end_of rows i) (rw (sub-one (suc (suc more))) at (along-next a on)))

  all_hold : (at : ℕ → Formula) → ((j : ℕ) → Walkable rows #N j → Leaves (at j)) → (m i : ℕ) → 0 < m → Along rows #N m i
      → AtLeavesOf P P (λ l v. P l) (children_at rows reads at (m - 1) i)
  all_hold at so zero i some a = absurd (omega arith)
  all_hold at so (suc m) i some a = rw (sub-one (suc m)) (children-hold at so m i a)

  node-holds : (at : ℕ → Formula) → ((j : ℕ) → Walkable rows #N j → Leaves (at j)) → (i : ℕ) → Walkable rows #N i
      → Leaves (node_at rows reads at i (form_of (kind_of rows i)))
  unfolding node_at star_at
  node-holds at so i w =
      by_form (λ f. Along rows #N (expressions f (arg_of rows i)) (first_under f i) → (2 < k → 0 < expressions f (arg_of rows i))
      → Leaves (node_at rows reads at i f)) k
      (λ e a s. each i w.here)
      (λ e a s. each i w.here)
      (λ e a s. each i w.here)
      (λ e a s. all_hold at so (arg_of rows i) _ (s (omega arith)) a)
      (λ e a s. all_hold at so (arg_of rows i) _ (s (omega arith)) a)
      (λ e a s. so _ (along-on a (omega arith)))
      (λ e a s. (so _ (along-on a (omega arith)), so _ (along-on (along-next a (omega arith)) (omega arith))))
      (λ e a s. each i w.here)
      (along_under w) (w.shaped.joined i w.here)
    where
      k : ℕ
      k = kind_of rows i

  pub leaves-hold : (left i : ℕ) → Walkable rows #N i → AtLeaves P P (λ l v. P l) (formula_at rows reads left i)
  unfolding formula_at
  leaves-hold zero i w = each i w.here
  leaves-hold (suc left) i w = node-holds (formula_at rows reads left) (leaves-hold left) i w
