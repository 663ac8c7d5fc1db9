-- Frozen sets (document 001, Table 1, least solution; document 01, "Frozen set of a candidate").
use Rattle.std.specs.Prelude.{Bool, true, ◌&&◌, ◌≡◌, List, [], ◌∷◌, ◌++◌}
use Rattle.paper.specs.Lists.{any_of}
use Rattle.paper.specs.Formula.{Label, Variable, Star, same, holds, lab, Formula, Formulas, FALSE}
use Rattle.paper.specs.Formula.{test, candidate, conjunction, disjunction, exists, IF, only, ◌⨾◌}

-- A label of a formula with the stars that freeze variables at it: the guards of every exists and IF around it,
-- outermost first, and last its own star, if it is a star or a candidate.
pub record Site : Type 0 where
  pub label : Label
  pub stars : List Star

abbrev pub site : Label → List Star → Site
site l ss = record { label = l; stars = ss }

-- the sites of a formula with the guards g around it, in preorder
abbrev mutual
  pub sites_under : List Star → Formula → List Site
  sites_under g (FALSE l) = site l g ∷ []
  sites_under g (test s) = site s.label (g ++ (s ∷ [])) ∷ []
  sites_under g (candidate l v s) = site l (g ++ (s ∷ [])) ∷ site s.label (g ++ (s ∷ [])) ∷ []
  sites_under g (conjunction l fs) = site l g ∷ sites_of g fs
  sites_under g (disjunction l fs) = site l g ∷ sites_of g fs
  sites_under g (exists l s f) = site l g ∷ site s.label (g ++ (s ∷ [])) ∷ sites_under (g ++ (s ∷ [])) f
  sites_under g (IF l s f h) = site l g ∷ site s.label (g ++ (s ∷ [])) ∷ sites_under (g ++ (s ∷ [])) f ++ sites_under (g ++ (s ∷ [])) h

  pub sites_of : List Star → Formulas → List Site
  sites_of g (only f) = sites_under g f
  sites_of g (f ⨾ fs) = sites_under g f ++ sites_of g fs

abbrev pub sites : Formula → List Site
sites f = sites_under [] f

-- one of the stars reads v
abbrev pub are_read : List Star → Variable → Bool
are_read ss v = any_of (λ s. holds s.reads v) ss

-- v is in frozen(l)
abbrev pub frozen : Formula → Label → Variable → Bool
frozen f l v = any_of (λ s. same l s.label && are_read s.stars v) (sites f)

-- The constraints of Table 1 on a family F of sets of variables, one for each label.
module _ (F : Label → Variable → Bool) where
  -- the star's reads are in its set; the set of i is part of the set of j
  abbrev pub Holds : Star → Type 0
  Holds s = (v : Variable) → holds s.reads v ≡ true → F s.label v ≡ true

  abbrev pub Inside : Label → Label → Type 0
  Inside i j = (v : Variable) → F i v ≡ true → F j v ≡ true

  abbrev mutual
    pub Constrained : Formula → Type 0
    Constrained (FALSE l) = Unit {0}
    Constrained (test s) = Holds s
    Constrained (candidate l v s) = Holds s × Inside l s.label × Inside s.label l
    Constrained (conjunction l fs) = ConstrainedUnder l fs
    Constrained (disjunction l fs) = ConstrainedUnder l fs
    Constrained (exists l s f) = Holds s × Inside l s.label × Inside s.label (lab f) × Constrained f
    Constrained (IF l s f g) = Holds s × Inside l s.label × Inside s.label (lab f) × Inside s.label (lab g) × Constrained f × Constrained g

    -- the children of the row l
    pub ConstrainedUnder : Label → Formulas → Type 0
    ConstrainedUnder l (only f) = Inside l (lab f) × Constrained f
    ConstrainedUnder l (f ⨾ fs) = Inside l (lab f) × Constrained f × ConstrainedUnder l fs
