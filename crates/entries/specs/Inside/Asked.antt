-- What a search promises that is handed the test to ask.
use Rattle.std.specs.Prelude.{ℕ, ◌<◌, ◌≤◌, Bool, true, false}

-- It asked 0, 1, 2 and so on, each below n, up to the first that is an offender: `found` is that one, or n where none is.
-- `answers k b` says that b is what the test may answer at k.
pub record FirstAsked (answers : ℕ → Bool → Type 0) (n found : ℕ) : Type 0 where
  pub within : found ≤ n
  pub passed : (k : ℕ) → k < found → answers k false
  pub stopped : found < n → answers found true

-- the test has one answer at each k below n
abbrev pub OneAnswer : (ℕ → Bool → Type 0) → ℕ → Type 0
OneAnswer answers n = (k : ℕ) → k < n → answers k false → answers k true → ⊥
