-- The labels that transition i keeps (document 01, "Key" and "Numbering"), worked out over the structure: quotient and remainder at a conjunction, whose
-- first child is the most significant; offset at a disjunction; every child where the only key is empty.
use Rattle.std.specs.Prelude.{ℕ, ◌-◌, ◌/◌, ◌%◌, cond, List, [], ◌∷◌, ◌++◌, eqb, ltb}
use Rattle.paper.specs.Formula.{Label, Formula, Formulas, FALSE, test, candidate, conjunction, disjunction, exists, IF, only, ◌⨾◌}
use Rattle.paper.specs.Inside.Structure.KeyCount.{key_count_of, number_of, number_of_each}

-- of a child that stands beside others: what its first key keeps, or nothing where it has no key
abbrev pub where_any : ℕ → List Label → List Label
where_any number kept = cond (eqb number 0) [] kept

abbrev mutual
  pub kept_at : List Label → Formula → ℕ → List Label
  kept_at A (FALSE l) i = l ∷ []
  kept_at A (test s) i = s.label ∷ []
  kept_at A (candidate l v s) i = l ∷ []
  kept_at A (conjunction l fs) i = kept_each A fs i
  kept_at A (disjunction l fs) i = cond (key_count_of A (disjunction l fs)).empty (kept_all A fs) (kept_any A fs i)
  kept_at A (exists l s f) i = kept_at A f i
  kept_at A (IF l s f g) i = cond (key_count_of A (IF l s f g)).empty
      (where_any (number_of A f) (kept_at A f 0) ++ where_any (number_of A g) (kept_at A g 0))
      (cond (ltb i (number_of A f)) (kept_at A f i) (kept_at A g (i - number_of A f)))

  pub kept_each : List Label → Formulas → ℕ → List Label
  kept_each A (only f) i = kept_at A f i
  kept_each A (f ⨾ fs) i = kept_at A f (i / number_of_each A fs) ++ kept_each A fs (i % number_of_each A fs)

  pub kept_any : List Label → Formulas → ℕ → List Label
  kept_any A (only f) i = kept_at A f i
  kept_any A (f ⨾ fs) i = cond (ltb i (number_of A f)) (kept_at A f i) (kept_any A fs (i - number_of A f))

  pub kept_all : List Label → Formulas → List Label
  kept_all A (only f) = where_any (number_of A f) (kept_at A f 0)
  kept_all A (f ⨾ fs) = where_any (number_of A f) (kept_at A f 0) ++ kept_all A fs
