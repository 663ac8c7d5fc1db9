-- What the branches of a formula have of one variable (refusals 11 and 12), worked out over the structure.
use Rattle.std.specs.Prelude.{Bool, true, false, ◌&&◌, ◌||◌, List}
use Rattle.paper.specs.Formula.{Label, Variable, has, alike, Formula}
use Rattle.paper.specs.Inside.Structure.Fold.{Fold, fold_of}

-- there is a branch; each branch has a chosen candidate of the variable; some branch has one; some branch has two or more
pub record Cover : Type 0 where
  pub live : Bool
  pub always : Bool
  pub ever : Bool
  pub twice : Bool

abbrev pub cover : Bool → Bool → Bool → Bool → Cover
cover l a e t = record { live = l; always = a; ever = e; twice = t }

-- one branch that has a chosen candidate of the variable, or has none
abbrev pub leaf_cover : Bool → Cover
leaf_cover chosen = cover true chosen chosen false

-- a conjunction starts from one branch with nothing on it, any other join from no branch
abbrev pub unit_cover : Bool → Cover
unit_cover true = cover true false false false
unit_cover false = cover false true false false

-- where one side of a conjunction has no branch, the conjunction has none
abbrev pub both_cover : Bool → Bool → Cover → Cover → Cover
both_cover true true a b = cover true (a.always || b.always) (a.ever || b.ever) ((a.twice || b.twice) || (a.ever && b.ever))
both_cover true false a b = b
both_cover false live a b = a

abbrev pub join_cover : Bool → Cover → Cover → Cover
join_cover true a b = both_cover a.live b.live a b
join_cover false a b = cover (a.live || b.live) (a.always && b.always) (a.ever || b.ever) (a.twice || b.twice)

abbrev pub cover_fold : List Label → Variable → Fold Cover
cover_fold A v = record {
  at_false = λ l. leaf_cover false;
  at_test = λ l. leaf_cover false;
  at_candidate = λ l w. leaf_cover (has A l && alike v w);
  unit = unit_cover;
  join = join_cover;
}

abbrev pub cover_of : List Label → Variable → Formula → Cover
cover_of A v f = fold_of (cover_fold A v) f
