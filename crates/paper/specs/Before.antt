-- The relation "before" (document 001, section 3, the dependency relations, and Definition 3; document 01, "Before").
use Rattle.std.specs.Prelude.{Bool, ◌&&◌, List}
use Rattle.paper.specs.Lists.{any_of}
use Rattle.paper.specs.Formula.{Label, same, has, Formula, candidates}
use Rattle.paper.specs.Branch.{branches}
use Rattle.paper.specs.Frozen.{frozen}

-- i is a candidate, and its variable is frozen at j
abbrev pub depends : Formula → Label → Label → Bool
depends f i j = any_of (λ c. same i c.label && frozen f j c.variable) (candidates f)

-- some branch holds both
abbrev pub share_branch : Formula → Label → Label → Bool
share_branch f i j = any_of (λ b. has b i && has b j) (branches f)

-- i comes before j: both are in A, some branch holds both, and i's variable is frozen at j
abbrev pub before : Formula → List Label → Label → Label → Bool
before f A i j = has A i && (has A j && (share_branch f i j && depends f i j))
