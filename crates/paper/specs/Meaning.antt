-- Meanings, and the truth of a formula under one (document 01, "Meaning"; document 001, section 6).
-- A slice is read with the labels and the meaning of the whole formula.
use Rattle.std.specs.Prelude.{ℕ, Bool, true, false, ◌≡◌, ◌⊎◌, List, [], ◌∷◌, ◌++◌}
use Rattle.paper.specs.Formula.{Label, Formula, Formulas, FALSE, test, candidate, conjunction, disjunction, exists, IF, only, ◌⨾◌}

-- The lists are the values of the enclosing bound variables, outermost first. A test, a candidate and an IF have yes
-- or no under their own label; an exists row has under its own label the numbers that are members of its set.
pub record Meaning : Type 0 where
  pub yes : Label → List ℕ → Bool
  pub member : Label → List ℕ → ℕ → Bool

abbrev mutual
  pub True : Meaning → List ℕ → Formula → Type 0
  True m xs (FALSE l) = ⊥
  True m xs (test s) = m.yes s.label xs ≡ true
  True m xs (candidate l v s) = m.yes l xs ≡ true
  True m xs (conjunction l fs) = EachTrue m xs fs
  True m xs (disjunction l fs) = AnyTrue m xs fs
  True m xs (exists l s f) = (x : ℕ) × (m.member l xs x ≡ true) × True m (xs ++ (x ∷ [])) f
  True m xs (IF l s f g) = ((m.yes l xs ≡ true) × True m xs f) ⊎ ((m.yes l xs ≡ false) × True m xs g)

  pub EachTrue : Meaning → List ℕ → Formulas → Type 0
  EachTrue m xs (only f) = True m xs f
  EachTrue m xs (f ⨾ fs) = True m xs f × EachTrue m xs fs

  pub AnyTrue : Meaning → List ℕ → Formulas → Type 0
  AnyTrue m xs (only f) = True m xs f
  AnyTrue m xs (f ⨾ fs) = True m xs f ⊎ AnyTrue m xs fs
