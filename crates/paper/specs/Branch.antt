-- Branches (document 001, Table 2 and section 4; document 01, "Branch").
-- Stars inside candidates, and stars that guard an exists or an IF, are in no branch.
use Rattle.std.specs.Prelude.{List, [], ◌∷◌, ◌++◌}
use Rattle.paper.specs.Lists.{pairs}
use Rattle.paper.specs.Formula.{Label, Formula, Formulas, FALSE, test, candidate, conjunction, disjunction, exists, IF, only, ◌⨾◌}

abbrev mutual
  pub branches : Formula → List (List Label)
  branches (FALSE l) = (l ∷ []) ∷ []
  branches (test s) = (s.label ∷ []) ∷ []
  branches (candidate l v s) = (l ∷ []) ∷ []
  branches (conjunction l fs) = of_each fs
  branches (disjunction l fs) = of_any fs
  branches (exists l s f) = branches f
  branches (IF l s f g) = branches f ++ branches g

  -- one branch of every child, joined
  pub of_each : Formulas → List (List Label)
  of_each (only f) = branches f
  of_each (f ⨾ fs) = pairs (branches f) (of_each fs)

  -- the branches of any one child
  pub of_any : Formulas → List (List Label)
  of_any (only f) = branches f
  of_any (f ⨾ fs) = branches f ++ of_any fs
