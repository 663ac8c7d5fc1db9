-- Document 01's cases about the number of transitions ("Both sides of each edge"), as formulas: four disjunctions of 3, 5, 17 and 257
-- candidates, one variable each, conjoined, all chosen, and sixteen of two; and sixteen with a cycle as well. They have too many
-- branches to be listed; proofs/ManyTransitions.antt judges them over the structure.
use Rattle.std.specs.Prelude.{ℕ, zero, suc, ◌+◌, List, [], ◌∷◌, ◌++◌}
use Rattle.paper.specs.Formula.{Label, ℓ, Formula, Formulas, conjunction, disjunction, only, ◌⨾◌}
use Rattle.paper.specs.Cases.{assign}

-- v' in s, and so many more of it, from the label n on: each takes two labels
abbrev candidates_of : ℕ → ℕ → ℕ → Formulas
candidates_of v zero n = only (assign n v [])
candidates_of v (suc more) n = assign n v [] ⨾ candidates_of v more (n + 2)

-- their labels
abbrev labels_from : ℕ → ℕ → List Label
labels_from zero n = ℓ n ∷ []
labels_from (suc more) n = ℓ n ∷ labels_from more (n + 2)

-- one and so many more candidates of v, one of them to be taken
abbrev choice : ℕ → ℕ → ℕ → Formula
choice v more n = disjunction (ℓ n) (candidates_of v more (n + 1))

-- disjunctions of 3, 5, 17 and 257: they take 7, 11, 35 and 515 labels
abbrev pub four_choices : Formula
four_choices = conjunction (ℓ 0) (choice 0 2 1 ⨾ choice 1 4 8 ⨾ choice 2 16 19 ⨾ only (choice 3 256 54))

abbrev pub all_of_four : List Label
all_of_four = labels_from 2 2 ++ labels_from 4 9 ++ labels_from 16 20 ++ labels_from 256 55

-- disjunctions of two, from the variable v and the label n on: they take five labels each
abbrev choices : ℕ → ℕ → ℕ → Formulas
choices v zero n = only (choice v 1 n)
choices v (suc more) n = choice v 1 n ⨾ choices (v + 1) more (n + 5)

abbrev labels_of_choices : ℕ → ℕ → List Label
labels_of_choices zero n = labels_from 1 (n + 1)
labels_of_choices (suc more) n = labels_from 1 (n + 1) ++ labels_of_choices more (n + 5)

abbrev pub sixteen_choices : Formula
sixteen_choices = conjunction (ℓ 0) (choices 0 15 1)

abbrev pub all_of_sixteen : List Label
all_of_sixteen = labels_of_choices 15 1

-- the first candidate of the first variable reads that variable
abbrev pub sixteen_in_cycle : Formula
sixteen_in_cycle = conjunction (ℓ 0) (disjunction (ℓ 1) (assign 2 0 (0 ∷ []) ⨾ only (assign 4 0 [])) ⨾ choices 1 14 6)
