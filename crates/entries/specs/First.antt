-- The lowest offender: `first bad n` is the lowest k below n with `bad k`, and n where there is none.
use Rattle.std.specs.Prelude.{ℕ, zero, suc, Bool, cond}

unfoldable pub first : (ℕ → Bool) → ℕ → ℕ
first bad zero = zero
first bad (suc n) = cond (bad 0) 0 (suc (first (λ k. bad (suc k)) n))
