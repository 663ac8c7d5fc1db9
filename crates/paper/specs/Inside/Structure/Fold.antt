-- A fold over formulas by their form: a value for each leaf, and how the values of a join's children are joined from
-- a unit on. Branches are a fold, and so is what code works out by one walk over the rows.
use Rattle.std.specs.Prelude.{Bool, true, false}
use Rattle.paper.specs.Formula.{Label, Variable, Formula, Formulas, FALSE, test, candidate, conjunction, disjunction, exists, IF, only, ◌⨾◌}

-- a conjunction is joined by `true`, every other join by `false`
pub record Fold (A : Type 0) : Type 0 where
  pub at_false : Label → A
  pub at_test : Label → A
  pub at_candidate : Label → Variable → A
  pub unit : Bool → A
  pub join : Bool → A → A → A

abbrev mutual
  pub fold_of : {A : Type 0} → Fold A → Formula → A
  fold_of r (FALSE l) = r.at_false l
  fold_of r (test s) = r.at_test s.label
  fold_of r (candidate l v s) = r.at_candidate l v
  fold_of r (conjunction l fs) = fold_all r true (r.unit true) fs
  fold_of r (disjunction l fs) = fold_all r false (r.unit false) fs
  fold_of r (exists l s f) = r.join false (r.unit false) (fold_of r f)
  fold_of r (IF l s f g) = r.join false (r.join false (r.unit false) (fold_of r f)) (fold_of r g)

  -- the children joined one after another to what was read before them
  pub fold_all : {A : Type 0} → Fold A → Bool → A → Formulas → A
  fold_all r c a (only f) = r.join c a (fold_of r f)
  fold_all r c a (f ⨾ fs) = fold_all r c (r.join c a (fold_of r f)) fs
