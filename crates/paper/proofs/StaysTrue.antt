-- A slice that is true stays true by a larger set of labels, by induction on the formula. The slice by all labels is the formula itself.
use Prim.Native.Nat.{ℕ}
use mathlib.Core.Path.{◌≡◌, refl, ap}
use mathlib.Core.Bool.{Bool, true, false, cond, false≢true}
use mathlib.Core.Logic.{inl, inr}
use mathlib.Core.List.{List, [], ◌∷◌, ◌++◌}
use Rattle.paper.specs.Formula.{Label, Formula, Formulas, FALSE, test, candidate, conjunction, disjunction, exists, IF, only, ◌⨾◌}
use Rattle.paper.specs.BoolForm.{Part}
use Rattle.paper.specs.Transition.{slice_by, slices_by}
use Rattle.paper.specs.Meaning.{Meaning, True, EachTrue, AnyTrue}

-- the slice by all labels
abbrev pub all : Label → Bool
all l = true

mutual
  pub slice-by-all : (f : Formula) → slice_by all f ≡ f
  slice-by-all (FALSE l) = refl
  slice-by-all (test s) = refl
  slice-by-all (candidate l v s) = refl
  slice-by-all (conjunction l fs) = ap (conjunction l) (slices-by-all fs)
  slice-by-all (disjunction l fs) = ap (disjunction l) (slices-by-all fs)
  slice-by-all (exists l s f) = ap (exists l s) (slice-by-all f)
  slice-by-all (IF l s f g) = let p = slice-by-all f in let q = slice-by-all g in cc

  slices-by-all : (fs : Formulas) → slices_by all fs ≡ fs
  slices-by-all (only f) = ap only (slice-by-all f)
  slices-by-all (f ⨾ fs) = let p = slice-by-all f in let q = slices-by-all fs in cc

-- a true slice is true by a larger set: Proposition 7 for a set and a larger one
leaf-stays : (m : Meaning) (xs : List ℕ) (f : Formula) (l : Label) (s t : Bool) → (s ≡ true → t ≡ true)
    → True m xs (cond s f (FALSE l)) → True m xs (cond t f (FALSE l))
leaf-stays m xs f l true true u h = h
leaf-stays m xs f l true false u h = absurd (false≢true (u refl))
leaf-stays m xs f l false t u h = absurd h

module _ (m : Meaning) (S T : Label → Bool) (sub : Part S T) where
  mutual
    pub stays-true : (xs : List ℕ) (f : Formula) → True m xs (slice_by S f) → True m xs (slice_by T f)
    stays-true xs (FALSE l) h = h
    stays-true xs (test s) h = leaf-stays m xs (test s) s.label (S s.label) (T s.label) (sub s.label) h
    stays-true xs (candidate l v s) h = leaf-stays m xs (candidate l v s) l (S l) (T l) (sub l) h
    stays-true xs (conjunction l fs) h = stays-true-each xs fs h
    stays-true xs (disjunction l fs) h = stays-true-any xs fs h
    stays-true xs (exists l s f) (x, i, h) = (x, i, stays-true (xs ++ (x ∷ [])) f h)
    stays-true xs (IF l s f g) (inl (y, h)) = inl (y, stays-true xs f h)
    stays-true xs (IF l s f g) (inr (y, h)) = inr (y, stays-true xs g h)

    pub stays-true-each : (xs : List ℕ) (fs : Formulas) → EachTrue m xs (slices_by S fs) → EachTrue m xs (slices_by T fs)
    stays-true-each xs (only f) h = stays-true xs f h
    stays-true-each xs (f ⨾ fs) (h, k) = (stays-true xs f h, stays-true-each xs fs k)

    pub stays-true-any : (xs : List ℕ) (fs : Formulas) → AnyTrue m xs (slices_by S fs) → AnyTrue m xs (slices_by T fs)
    stays-true-any xs (only f) h = stays-true xs f h
    stays-true-any xs (f ⨾ fs) (inl h) = inl (stays-true xs f h)
    stays-true-any xs (f ⨾ fs) (inr h) = inr (stays-true-any xs fs h)
