-- Document 01's "A listing, whole" as words and as a table: what the checks, the reader and the writer say of it.
use Rattle.std.specs.Prelude.{ℕ, List, [], ◌∷◌, map}
use Rattle.paper.specs.Formula.{ℓ, 𝓋, Star, Formula, candidate, conjunction, disjunction, only, ◌⨾◌}
use Rattle.written.specs.Written.{Table}

abbrev pub words_of_p : List ℕ
words_of_p =
    2 ∷ 40 ∷ 300 ∷ 1 ∷ 0 ∷ 8
    ∷ 3 ∷ 2 ∷ 8 ∷ 0 ∷ 2 ∷ 0 ∷ 3 ∷ 0 ∷ 1 ∷ 0 ∷ 3 ∷ 0 ∷ 4 ∷ 2 ∷ 8 ∷ 0 ∷ 2 ∷ 1 ∷ 6 ∷ 0 ∷ 1 ∷ 1 ∷ 6 ∷ 0 ∷ 2 ∷ 1 ∷ 8 ∷ 1 ∷ 1 ∷ 0 ∷ 8 ∷ 1
    ∷ 3 ∷ 1 ∷ 4 ∷ 6 ∷ []

abbrev pub star : ℕ → List ℕ → Star
star l vs = record { label = ℓ l; reads = map 𝓋 vs }

-- x' in star, and (y' in a star that reads x', or y' in star)
abbrev pub P : Formula
P = conjunction (ℓ 0) (candidate (ℓ 1) (𝓋 0) (star 2 [])
    ⨾ only (disjunction (ℓ 3) (candidate (ℓ 4) (𝓋 1) (star 5 (0 ∷ [])) ⨾ only (candidate (ℓ 6) (𝓋 1) (star 7 [])))))

abbrev pub table_of_p : Table
table_of_p = record { names = 40 ∷ 300 ∷ []; formula = P; strategy = ℓ 1 ∷ ℓ 4 ∷ ℓ 6 ∷ [] }
