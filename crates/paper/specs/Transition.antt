-- Slices, keys, classes and transitions (document 001, Table 4 and Definition 5; document 01, "Key" and "Numbering").
use Rattle.std.specs.Prelude.{ℕ, Bool, true, false, cond, ◌&&◌, ◌||◌, ◌≡◌, ltb, get_or}
use mathlib.Core.List.{List, [], ◌∷◌, map, Memᴰ}
use Rattle.paper.specs.Lists.{any_of, those}
use Rattle.paper.specs.Formula.{Label, same, has, labels, Formula, Formulas, FALSE, test, candidate, conjunction, disjunction, exists, IF, only, ◌⨾◌}
use Rattle.paper.specs.Branch.{branches}

-- Table 4: the formula sliced by a set of labels; each test or candidate that is not in it becomes FALSE
abbrev mutual
  pub slice_by : (Label → Bool) → Formula → Formula
  slice_by S (FALSE l) = FALSE l
  slice_by S (test s) = cond (S s.label) (test s) (FALSE s.label)
  slice_by S (candidate l v s) = cond (S l) (candidate l v s) (FALSE l)
  slice_by S (conjunction l fs) = conjunction l (slices_by S fs)
  slice_by S (disjunction l fs) = disjunction l (slices_by S fs)
  slice_by S (exists l s f) = exists l s (slice_by S f)
  slice_by S (IF l s f g) = IF l s (slice_by S f) (slice_by S g)

  pub slices_by : (Label → Bool) → Formulas → Formulas
  slices_by S (only f) = only (slice_by S f)
  slices_by S (f ⨾ fs) = slice_by S f ⨾ slices_by S fs

-- the key of a branch: its chosen labels, ascending as the branch's own labels do
abbrev pub key : List Label → List Label → List Label
key A b = those (has A) b

-- two keys are equal
abbrev pub same_key : List Label → List Label → Bool
same_key [] [] = true
same_key [] (y ∷ ys) = false
same_key (x ∷ xs) [] = false
same_key (x ∷ xs) (y ∷ ys) = same x y && same_key xs ys

-- the first differing label decides, lower first
abbrev pub is_lower : List Label → List Label → Bool
is_lower [] [] = false
is_lower [] (y ∷ ys) = true
is_lower (x ∷ xs) [] = false
is_lower (x ∷ xs) (y ∷ ys) = ltb x.0 y.0 || same x y && is_lower xs ys

-- the class of the branches whose key is k, and what its transition keeps: the labels of all of them
abbrev pub class : Formula → List Label → List Label → List (List Label)
class f A k = those (λ b. same_key (key A b) k) (branches f)

abbrev pub is_kept : Formula → List Label → List Label → Label → Bool
is_kept f A k l = any_of (λ b. has b l) (class f A k)

-- the kept labels, ascending
abbrev pub kept_labels : Formula → List Label → List Label → List Label
kept_labels f A k = those (is_kept f A k) (labels f)

-- a key put in its place among distinct ascending ones
abbrev pub with_key : List Label → List (List Label) → List (List Label)
with_key k [] = k ∷ []
with_key k (j ∷ js) = cond (same_key k j) (j ∷ js) (cond (is_lower k j) (k ∷ j ∷ js) (j ∷ with_key k js))

abbrev pub distinct : List (List Label) → List (List Label)
distinct [] = []
distinct (k ∷ ks) = with_key k (distinct ks)

-- the distinct keys, ascending: the number of a transition is that of its key here, counted from 0
abbrev pub keys : Formula → List Label → List (List Label)
keys f A = distinct (map (key A) (branches f))

-- the key whose number is k
abbrev pub key_at : Formula → List Label → ℕ → List Label
key_at f A k = get_or (keys f A) k []

-- Definition 5: the transition of the class with the key k
abbrev pub transition : Formula → List Label → List Label → Formula
transition f A k = slice_by (is_kept f A k) f

abbrev pub transitions : Formula → List Label → List Formula
transitions f A = map (transition f A) (keys f A)

-- what a list of keys is that lists a formula's: strictly ascending, so each once; each the key of a branch, and no branch's left out
abbrev pub Ascending : List (List Label) → Type 0
Ascending [] = Unit {0}
Ascending (k ∷ ks) = ((j : List Label) → Memᴰ j ks → is_lower k j ≡ true) × Ascending ks

pub record KeysAreListed (f : Formula) (A : List Label) : Type 0 where
  pub ascending : Ascending (keys f A)
  pub from : (k : List Label) → Memᴰ k (keys f A) → (b : List Label) × Memᴰ b (branches f) × (k ≡ key A b)
  pub onto : (b : List Label) → Memᴰ b (branches f) → Memᴰ (key A b) (keys f A)
