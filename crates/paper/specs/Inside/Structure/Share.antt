-- Whether some branch holds given labels (document 01, "Before"), worked out over the structure: they part among the children of a conjunction
-- and meet in one child of any other join.
use Rattle.std.specs.Prelude.{Bool, ◌&&◌, ◌||◌, List, [], ◌∷◌, ◌++◌, map}
use Rattle.paper.specs.Lists.{any_of, all_of}
use Rattle.paper.specs.Formula.{Label, has, Formula, Formulas, FALSE, test, candidate, conjunction, disjunction, exists, IF, only, ◌⨾◌}

-- a way to part a list in two
pub record Parting : Type 0 where
  pub left : List Label
  pub right : List Label

abbrev pub to_left : Label → Parting → Parting
to_left x p = record { left = x ∷ p.left; right = p.right }

abbrev pub to_right : Label → Parting → Parting
to_right x p = record { left = p.left; right = x ∷ p.right }

abbrev pub partings : List Label → List Parting
partings [] = record { left = []; right = [] } ∷ []
partings (x ∷ S) = map (to_left x) (partings S) ++ map (to_right x) (partings S)

-- the branch b holds the labels of S
abbrev pub holds_all : List Label → List Label → Bool
holds_all b S = all_of (has b) S

abbrev mutual
  pub some_branch_holds : Formula → List Label → Bool
  some_branch_holds (FALSE l) S = holds_all (l ∷ []) S
  some_branch_holds (test s) S = holds_all (s.label ∷ []) S
  some_branch_holds (candidate l v s) S = holds_all (l ∷ []) S
  some_branch_holds (conjunction l fs) S = each_holds fs S
  some_branch_holds (disjunction l fs) S = any_holds fs S
  some_branch_holds (exists l s f) S = some_branch_holds f S
  some_branch_holds (IF l s f g) S = some_branch_holds f S || some_branch_holds g S

  pub each_holds : Formulas → List Label → Bool
  each_holds (only f) S = some_branch_holds f S
  each_holds (f ⨾ fs) S = any_of (λ p. some_branch_holds f p.left && each_holds fs p.right) (partings S)

  pub any_holds : Formulas → List Label → Bool
  any_holds (only f) S = some_branch_holds f S
  any_holds (f ⨾ fs) S = some_branch_holds f S || any_holds fs S
