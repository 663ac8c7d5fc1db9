-- The formula that rows write, row by row from row i on (document 01, the table of kinds). On rows that break their rules
-- it is some formula or other: what is promised of it is promised of sound rows.
use Rattle.std.specs.Prelude.{ℕ, zero, suc, ◌+◌, ◌-◌, List, map, take, drop}
use Rattle.paper.specs.Formula.{ℓ, 𝓋, Star, Formula, Formulas, FALSE, test, candidate, conjunction, disjunction, exists, IF, only, ◌⨾◌}
use Rattle.rows.specs.Rows.{kind_of, arg_of, end_of, from_of, form_of}
use Rattle.rows.specs.declared.form.Form.{Form}
use Rattle.rows.specs.declared.form.Form.TheVariants as form

module _ (rows reads : List ℕ) where
  -- the star of row i takes its next arg reads
  unfoldable pub star_at : ℕ → Star
  star_at i = record { label = ℓ i; reads = map 𝓋 (take (arg_of rows i) (drop (from_of rows i) reads)) }

  -- the child at row i and so many more after it, each at the end of the one before
  unfoldable pub children_at : (ℕ → Formula) → ℕ → ℕ → Formulas
  children_at at zero i = only (at i)
  children_at at (suc more) i = at i ⨾ children_at at more (end_of rows i)

  -- row i, of a form, its children being read by `at`
  unfoldable pub node_at : (ℕ → Formula) → ℕ → Form → Formula
  node_at at i form.False = FALSE (ℓ i)
  node_at at i form.Star = test (star_at i)
  node_at at i form.Candidate = candidate (ℓ i) (𝓋 (arg_of rows i)) (star_at (i + 1))
  node_at at i form.Conjunction = conjunction (ℓ i) (children_at at (arg_of rows i - 1) (i + 1))
  node_at at i form.Disjunction = disjunction (ℓ i) (children_at at (arg_of rows i - 1) (i + 1))
  node_at at i form.Exists = exists (ℓ i) (star_at (i + 1)) (at (i + 2))
  node_at at i form.If = IF (ℓ i) (star_at (i + 1)) (at (i + 2)) (at (end_of rows (i + 2)))
  node_at at i form.Unknown = FALSE (ℓ i)

  -- the formula at row i, so many levels deep at most
  unfoldable pub formula_at : ℕ → ℕ → Formula
  formula_at zero i = FALSE (ℓ i)
  formula_at (suc left) i = node_at (formula_at left) i (form_of (kind_of rows i))
