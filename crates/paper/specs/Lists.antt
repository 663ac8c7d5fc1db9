-- Lists read as finite sets (document 001 speaks of sets of labels, variables and branches).
-- Tests are Bool-valued, so that every definition over them computes.
use Rattle.std.specs.Prelude.{ℕ, zero, suc, Bool, true, false, cond, ◌&&◌, ◌||◌, List, [], ◌∷◌, ◌++◌, map}

module _ {A : Type 0} where
  -- some member passes the test
  abbrev pub any_of : (A → Bool) → List A → Bool
  any_of p [] = false
  any_of p (x ∷ xs) = p x || any_of p xs

  -- every member passes the test
  abbrev pub all_of : (A → Bool) → List A → Bool
  all_of p [] = true
  all_of p (x ∷ xs) = p x && all_of p xs

  -- the members that pass the test, in their order
  abbrev pub those : (A → Bool) → List A → List A
  those p [] = []
  those p (x ∷ xs) = cond (p x) (x ∷ those p xs) (those p xs)

  -- how many members pass the test
  abbrev pub how_many : (A → Bool) → List A → ℕ
  how_many p [] = 0
  how_many p (x ∷ xs) = cond (p x) (suc (how_many p xs)) (how_many p xs)

-- each list of the first joined with each list of the second
abbrev pub pairs : {A : Type 0} → List (List A) → List (List A) → List (List A)
pairs [] ys = []
pairs (x ∷ xs) ys = map (λ y. x ++ y) ys ++ pairs xs ys

-- the numbers 0 to n - 1
abbrev pub up_to : ℕ → List ℕ
up_to zero = []
up_to (suc n) = up_to n ++ (n ∷ [])

-- the last number below n that passes a test, or `none`
abbrev pub last_of : (ℕ → Bool) → ℕ → ℕ → ℕ
last_of p none zero = none
last_of p none (suc n) = cond (p n) n (last_of p none n)
