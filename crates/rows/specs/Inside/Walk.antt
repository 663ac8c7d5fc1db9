-- What a walk over the rows of a formula goes by: the expressions right under a row, and the value that a fold of
-- formulas has at a row and at the rest of a join's children (document 01, "Nested rows are walked by recursion").
use Rattle.std.specs.Prelude.{ℕ, zero, suc, ◌+◌, ◌*◌, ◌<◌, ◌≤◌, Bool, true, false, List, [], ◌≡◌, length}
use Rattle.paper.specs.Limits.{most_rows}
use Rattle.paper.specs.Formula.{Formula}
use Rattle.paper.specs.Inside.Structure.Fold.{Fold, fold_of}
use Rattle.rows.specs.Rows.{kind_of, arg_of, end_of, form_of, meets}
use Rattle.rows.specs.declared.form.Form.{Form}
use Rattle.rows.specs.declared.form.Form.TheVariants as form
use Rattle.rows.specs.Formula.{formula_at}

-- how many expressions stand right under a row of a form, with this arg
abbrev pub expressions : Form → ℕ → ℕ
expressions form.False arg = 0
expressions form.Star arg = 0
expressions form.Candidate arg = 0
expressions form.Conjunction arg = arg
expressions form.Disjunction arg = arg
expressions form.Exists arg = 1
expressions form.If arg = 2
expressions form.Unknown arg = 0

-- the first of them, under row i: the next row, or the one past the guard star
abbrev pub first_under : Form → ℕ → ℕ
first_under form.False i = i + 1
first_under form.Star i = i + 1
first_under form.Candidate i = i + 2
first_under form.Conjunction i = i + 1
first_under form.Disjunction i = i + 1
first_under form.Exists i = i + 2
first_under form.If i = i + 2
first_under form.Unknown i = i + 1

-- a conjunction is joined by `true`, every other join by `false`
abbrev pub is_conjunction : Form → Bool
is_conjunction form.False = false
is_conjunction form.Star = false
is_conjunction form.Candidate = false
is_conjunction form.Conjunction = true
is_conjunction form.Disjunction = false
is_conjunction form.Exists = false
is_conjunction form.If = false
is_conjunction form.Unknown = false

abbrev pub expressions_at : List ℕ → ℕ → ℕ
expressions_at rows i = expressions (form_of (kind_of rows i)) (arg_of rows i)

abbrev pub first_at : List ℕ → ℕ → ℕ
first_at rows i = first_under (form_of (kind_of rows i)) i

-- What a walk asks of #N rows: words are there for all, kinds are known, ends rise and lie within, and the expressions under
-- a row step to its end.
pub record Shaped (rows : List ℕ) (#N : ℕ) : Type 0 where
  pub room : 4 * #N ≤ length rows
  pub few : #N ≤ most_rows
  pub known : (i : ℕ) → i < #N → kind_of rows i < 7
  pub rises : (i : ℕ) → i < #N → i < end_of rows i
  pub within : (i : ℕ) → i < #N → end_of rows i ≤ #N
  pub under : (i : ℕ) → i < #N → meets rows (end_of rows i) (first_at rows i) (expressions_at rows i) ≡ true
  pub joined : (i : ℕ) → i < #N → 2 < kind_of rows i → 0 < expressions_at rows i

-- a walk that stands at row i
pub record Walkable (rows : List ℕ) (#N i : ℕ) : Type 0 where
  pub shaped : Shaped rows #N
  pub here : i < #N

-- m rows from row i on, each at the end of the one before, have their words
abbrev pub Stand : List ℕ → ℕ → ℕ → Type 0
Stand rows zero i = Unit {0}
Stand rows (suc m) i = (4 * i + 4 ≤ length rows) × Stand rows m (end_of rows i)

-- The formula at row i with stars that read nothing, so many levels deep at most: no fold looks at what stars read.
abbrev pub skeleton_at : List ℕ → ℕ → ℕ → Formula
skeleton_at rows left i = formula_at rows [] left i

module _ {A : Type 0} (r : Fold A) (rows : List ℕ) where
  -- what the fold has at row i
  unfoldable pub value_at : ℕ → ℕ → A
  value_at left i = fold_of r (skeleton_at rows left i)

  -- the values of m children from row i on, each at the end of the one before, joined to what was read before them
  unfoldable pub joined_from : ℕ → Bool → A → ℕ → ℕ → A
  joined_from left c a zero i = a
  joined_from left c a (suc m) i = joined_from left c (r.join c a (value_at left i)) m (end_of rows i)
