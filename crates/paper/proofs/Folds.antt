-- Laws of folds (specs/Inside/Structure/Fold.antt). A map that keeps the leaves of a formula, the units and the joins takes
-- one fold of it to another; a fold whose joins are associative and begin at a unit joins children from the right;
-- and branches are such a fold.
use mathlib.Core.Path.{◌≡◌, refl, sym, ◌∙◌}
use mathlib.Core.Bool.{Bool, true, false}
use mathlib.Core.List.{List, [], ◌∷◌, ◌++◌, append_assoc}
use Rattle.paper.specs.Lists.{pairs}
use Rattle.paper.specs.Formula.{Label, Variable, Formula, Formulas, FALSE, test, candidate, conjunction, disjunction, exists, IF, only, ◌⨾◌}
use Rattle.paper.specs.Branch.{branches, of_each, of_any}
use Rattle.paper.specs.Inside.Structure.Fold.{Fold, fold_of, fold_all}
use Rattle.paper.proofs.Lists.{pairs-assoc, pairs-unit}

-- one branch with nothing on it, or no branch; one branch of either side joined, or the branches of both
abbrev pub branch_unit : Bool → List (List Label)
branch_unit true = [] ∷ []
branch_unit false = []

abbrev pub branch_join : Bool → List (List Label) → List (List Label) → List (List Label)
branch_join true bs cs = pairs bs cs
branch_join false bs cs = bs ++ cs

abbrev pub branch_fold : Fold (List (List Label))
branch_fold = record {
  at_false = λ l. (l ∷ []) ∷ [];
  at_test = λ l. (l ∷ []) ∷ [];
  at_candidate = λ l v. (l ∷ []) ∷ [];
  unit = branch_unit;
  join = branch_join;
}

-- what is asked of each FALSE, each test and each candidate holds at the leaves of a formula
module _ (F T : Label → Type 0) (C : Label → Variable → Type 0) where
  abbrev mutual
    pub AtLeaves : Formula → Type 0
    AtLeaves (FALSE l) = F l
    AtLeaves (test s) = T s.label
    AtLeaves (candidate l v s) = C l v
    AtLeaves (conjunction l fs) = AtLeavesOf fs
    AtLeaves (disjunction l fs) = AtLeavesOf fs
    AtLeaves (exists l s f) = AtLeaves f
    AtLeaves (IF l s f g) = AtLeaves f × AtLeaves g

    pub AtLeavesOf : Formulas → Type 0
    AtLeavesOf (only f) = AtLeaves f
    AtLeavesOf (f ⨾ fs) = AtLeaves f × AtLeavesOf fs

  -- it does where it holds at every label
  module _ (no : (l : Label) → F l) (tested : (l : Label) → T l) (chosen : (l : Label) (v : Variable) → C l v) where
    mutual
      pub at-leaves : (f : Formula) → AtLeaves f
      at-leaves (FALSE l) = no l
      at-leaves (test s) = tested s.label
      at-leaves (candidate l v s) = chosen l v
      at-leaves (conjunction l fs) = at-leaves-of fs
      at-leaves (disjunction l fs) = at-leaves-of fs
      at-leaves (exists l s f) = at-leaves f
      at-leaves (IF l s f g) = (at-leaves f, at-leaves g)

      pub at-leaves-of : (fs : Formulas) → AtLeavesOf fs
      at-leaves-of (only f) = at-leaves f
      at-leaves-of (f ⨾ fs) = (at-leaves f, at-leaves-of fs)

-- from what holds at the leaves follows what it gives at each label
module _ {F T F' T' : Label → Type 0} {C C' : Label → Variable → Type 0}
    (no : (l : Label) → F l → F' l) (tested : (l : Label) → T l → T' l) (chosen : (l : Label) (v : Variable) → C l v → C' l v) where
  mutual
    pub leaves_map : (f : Formula) → AtLeaves F T C f → AtLeaves F' T' C' f
    leaves_map (FALSE l) k = no l k
    leaves_map (test s) k = tested s.label k
    leaves_map (candidate l v s) k = chosen l v k
    leaves_map (conjunction l fs) k = leaves-map-of fs k
    leaves_map (disjunction l fs) k = leaves-map-of fs k
    leaves_map (exists l s f) k = leaves_map f k
    leaves_map (IF l s f g) k = (leaves_map f k.0, leaves_map g k.1)

    pub leaves-map-of : (fs : Formulas) → AtLeavesOf F T C fs → AtLeavesOf F' T' C' fs
    leaves-map-of (only f) k = leaves_map f k
    leaves-map-of (f ⨾ fs) k = (leaves_map f k.0, leaves-map-of fs k.1)

module _ {A B : Type 0} (r : Fold A) (q : Fold B) (h : A → B) where
  -- h takes what r has at the leaves of a formula to what q has there
  abbrev pub Keeps : Formula → Type 0
  Keeps = AtLeaves (λ l. h (r.at_false l) ≡ q.at_false l) (λ l. h (r.at_test l) ≡ q.at_test l) (λ l v. h (r.at_candidate l v) ≡ q.at_candidate l v)

  abbrev pub KeepsOf : Formulas → Type 0
  KeepsOf = AtLeavesOf (λ l. h (r.at_false l) ≡ q.at_false l) (λ l. h (r.at_test l) ≡ q.at_test l) (λ l v. h (r.at_candidate l v) ≡ q.at_candidate l v)

  -- and the units, and the joins
  module _ (units : (c : Bool) → h (r.unit c) ≡ q.unit c) (joins : (c : Bool) (x y : A) → h (r.join c x y) ≡ q.join c (h x) (h y)) where
    joined : (c : Bool) {x y : A} {x' y' : B} → h x ≡ x' → h y ≡ y' → h (r.join c x y) ≡ q.join c x' y'
    joined c {x} {y} e d = let j = joins c x y in cc

    mutual
      pub carried : (f : Formula) → Keeps f → h (fold_of r f) ≡ fold_of q f
      carried (FALSE l) k = k
      carried (test s) k = k
      carried (candidate l v s) k = k
      carried (conjunction l fs) k = carried-all true (units true) fs k
      carried (disjunction l fs) k = carried-all false (units false) fs k
      carried (exists l s f) k = joined false (units false) (carried f k)
      carried (IF l s f g) k = joined false (joined false (units false) (carried f k.0)) (carried g k.1)

      pub carried-all : (c : Bool) {a : A} {b : B} → h a ≡ b → (fs : Formulas) → KeepsOf fs → h (fold_all r c a fs) ≡ fold_all q c b fs
      carried-all c e (only f) k = joined c e (carried f k)
      carried-all c e (f ⨾ fs) k = carried-all c (joined c e (carried f k.0)) fs k.1

    -- where h keeps the leaves at every label
    module _ (no : (l : Label) → h (r.at_false l) ≡ q.at_false l) (tested : (l : Label) → h (r.at_test l) ≡ q.at_test l)
        (chosen : (l : Label) (v : Variable) → h (r.at_candidate l v) ≡ q.at_candidate l v) where
      pub carried-everywhere : (f : Formula) → h (fold_of r f) ≡ fold_of q f
      carried-everywhere f = carried f (at-leaves _ _ _ no tested chosen f)

-- the children joined from the right
abbrev pub joined_from_right : {A : Type 0} → Fold A → Bool → Formulas → A
joined_from_right r c (only f) = fold_of r f
joined_from_right r c (f ⨾ fs) = r.join c (fold_of r f) (joined_from_right r c fs)

module _ {A : Type 0} (r : Fold A) (c : Bool) (assoc : (x y z : A) → r.join c (r.join c x y) z ≡ r.join c x (r.join c y z)) where
  pub from-the-right : (a : A) (fs : Formulas) → fold_all r c a fs ≡ r.join c a (joined_from_right r c fs)
  from-the-right a (only f) = refl
  from-the-right a (f ⨾ fs) = from-the-right (r.join c a (fold_of r f)) fs ∙ assoc a (fold_of r f) (joined_from_right r c fs)

  -- with no more before them than the unit
  pub from-the-unit : ((x : A) → r.join c (r.unit c) x ≡ x) → (fs : Formulas) → fold_all r c (r.unit c) fs ≡ joined_from_right r c fs
  from-the-unit unit fs = from-the-right (r.unit c) fs ∙ unit (joined_from_right r c fs)

-- branches are a fold
mutual
  pub branches-read : (f : Formula) → branches f ≡ fold_of branch_fold f
  branches-read (FALSE l) = refl
  branches-read (test s) = refl
  branches-read (candidate l v s) = refl
  branches-read (conjunction l fs) = each_read fs ∙ sym (from-the-unit branch_fold true pairs-assoc pairs-unit fs)
  branches-read (disjunction l fs) = any-read fs ∙ sym (from-the-unit branch_fold false append_assoc (λ bs. refl) fs)
  branches-read (exists l s f) = branches-read f
  branches-read (IF l s f g) = let p = branches-read f in let q = branches-read g in cc

  pub each_read : (fs : Formulas) → of_each fs ≡ joined_from_right branch_fold true fs
  each_read (only f) = branches-read f
  each_read (f ⨾ fs) = let p = branches-read f in let q = each_read fs in cc

  pub any-read : (fs : Formulas) → of_any fs ≡ joined_from_right branch_fold false fs
  any-read (only f) = branches-read f
  any-read (f ⨾ fs) = let p = branches-read f in let q = any-read fs in cc
