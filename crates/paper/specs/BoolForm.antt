-- The Boolean structure of a formula (document 001, Table 2), and the paper's own definition of a branch:
-- a set of labels that induces a minimal model of bool_form.
use Rattle.std.specs.Prelude.{Bool, true, ◌&&◌, ◌||◌, ◌≡◌}
use Rattle.paper.specs.Formula.{Label, Formula, Formulas, FALSE, test, candidate, conjunction, disjunction, exists, IF, only, ◌⨾◌}

-- the set S induces a model of bool_form(f)
abbrev mutual
  pub models : (Label → Bool) → Formula → Bool
  models S (FALSE l) = S l
  models S (test s) = S s.label
  models S (candidate l v s) = S l
  models S (conjunction l fs) = models_each S fs
  models S (disjunction l fs) = models_any S fs
  models S (exists l s f) = models S f
  models S (IF l s f g) = models S f || models S g

  pub models_each : (Label → Bool) → Formulas → Bool
  models_each S (only f) = models S f
  models_each S (f ⨾ fs) = models S f && models_each S fs

  pub models_any : (Label → Bool) → Formulas → Bool
  models_any S (only f) = models S f
  models_any S (f ⨾ fs) = models S f || models_any S fs

-- each label of the first set is in the second
abbrev pub Part : (Label → Bool) → (Label → Bool) → Type 0
Part S T = (l : Label) → S l ≡ true → T l ≡ true

-- (a) S induces a model; (b) no smaller set does
pub record MinimalModel (f : Formula) (S : Label → Bool) : Type 0 where
  pub model : models S f ≡ true
  pub minimal : (T : Label → Bool) → Part T S → models T f ≡ true → Part S T
