-- alpha-TLA+ (document 001, section 2; document 01, "The formula table").
-- A label and a variable are the records of src/lib.rt, so that code and definitions share them.
use Rattle.std.specs.Prelude.{ℕ, suc, ◌<◌, ◌≤◌, Bool, true, ◌&&◌, ◌≡◌, eqb}
use mathlib.Core.List.{List, [], ◌∷◌, ◌++◌, Memᴰ}
use Rattle.paper.specs.Lists.{any_of}
pub use Rattle.paper.specs.declared.Label.{Label}
pub use Rattle.paper.specs.declared.Variable.{Variable}

-- the label and the variable of a number
abbrev pub ℓ : ℕ → Label
ℓ n = record { 0 = n }

abbrev pub 𝓋 : ℕ → Variable
𝓋 n = record { 0 = n }

-- two labels are one; two variables are one
abbrev pub same : Label → Label → Bool
same i j = eqb i.0 j.0

abbrev pub alike : Variable → Variable → Bool
alike v w = eqb v.0 w.0

-- a label is in a list of labels; a variable is in a list of variables
abbrev pub has : List Label → Label → Bool
has b l = any_of (same l) b

abbrev pub holds : List Variable → Variable → Bool
holds r v = any_of (alike v) r

-- A star hides an expression: what is left of it is its label and the primed variables that it reads.
pub record Star : Type 0 where
  pub label : Label
  pub reads : List Variable

-- A conjunction or disjunction has one child or more.
infixr 60 ◌⨾◌
mutual
  pub data Formula : Type 0 where
    FALSE : Label → Formula
    test : Star → Formula
    candidate : Label → Variable → Star → Formula
    conjunction : Label → Formulas → Formula
    disjunction : Label → Formulas → Formula
    exists : Label → Star → Formula → Formula
    IF : Label → Star → Formula → Formula → Formula

  pub data Formulas : Type 0 where
    only : Formula → Formulas
    ◌⨾◌ : Formula → Formulas → Formulas

-- lab(f): the formula's own label
abbrev pub lab : Formula → Label
lab (FALSE l) = l
lab (test s) = s.label
lab (candidate l v s) = l
lab (conjunction l fs) = l
lab (disjunction l fs) = l
lab (exists l s f) = l
lab (IF l s f g) = l

-- Labs(f): the labels of all subexpressions, in preorder
abbrev mutual
  pub labels : Formula → List Label
  labels (FALSE l) = l ∷ []
  labels (test s) = s.label ∷ []
  labels (candidate l v s) = l ∷ s.label ∷ []
  labels (conjunction l fs) = l ∷ labels_of fs
  labels (disjunction l fs) = l ∷ labels_of fs
  labels (exists l s f) = l ∷ s.label ∷ labels f
  labels (IF l s f g) = l ∷ s.label ∷ labels f ++ labels g

  pub labels_of : Formulas → List Label
  labels_of (only f) = labels f
  labels_of (f ⨾ fs) = labels f ++ labels_of fs

-- the stars of a formula, in preorder
abbrev mutual
  pub stars : Formula → List Star
  stars (FALSE l) = []
  stars (test s) = s ∷ []
  stars (candidate l v s) = s ∷ []
  stars (conjunction l fs) = stars_of fs
  stars (disjunction l fs) = stars_of fs
  stars (exists l s f) = s ∷ stars f
  stars (IF l s f g) = s ∷ stars f ++ stars g

  pub stars_of : Formulas → List Star
  stars_of (only f) = stars f
  stars_of (f ⨾ fs) = stars f ++ stars_of fs

-- An assignment candidate, v' in star (document 001, section 3): its label and its variable.
pub record Candidate : Type 0 where
  pub label : Label
  pub variable : Variable

-- cand(f): the candidates of a formula, in preorder
abbrev mutual
  pub candidates : Formula → List Candidate
  candidates (FALSE l) = []
  candidates (test s) = []
  candidates (candidate l v s) = record { label = l; variable = v } ∷ []
  candidates (conjunction l fs) = candidates_of fs
  candidates (disjunction l fs) = candidates_of fs
  candidates (exists l s f) = candidates f
  candidates (IF l s f g) = candidates f ++ candidates g

  pub candidates_of : Formulas → List Candidate
  candidates_of (only f) = candidates f
  candidates_of (f ⨾ fs) = candidates f ++ candidates_of fs

-- l is in cand(f); l is in cand(v, f)
abbrev pub is_candidate : Formula → Label → Bool
is_candidate f l = any_of (λ c. same l c.label) (candidates f)

abbrev pub assigns : Formula → Variable → Label → Bool
assigns f v l = any_of (λ c. same l c.label && alike v c.variable) (candidates f)

-- labels that strictly ascend, the first at least p
abbrev pub Rising : ℕ → List Label → Type 0
Rising p [] = Unit {0}
Rising p (l ∷ ls) = (p ≤ l.0) × Rising (suc l.0) ls

-- What a table gives (document 01): labels ascend in preorder, so that each is unique, and no variable is above #V - 1.
pub record WellFormed (#V : ℕ) (f : Formula) : Type 0 where
  pub rising : Rising 0 (labels f)
  pub assigned : (c : Candidate) → Memᴰ c (candidates f) → c.variable.0 < #V
  pub read : (s : Star) → Memᴰ s (stars f) → (v : Variable) → holds s.reads v ≡ true → v.0 < #V
