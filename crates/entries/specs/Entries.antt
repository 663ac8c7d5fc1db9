-- Entries, one word each, and what is asked of one (document 01, refusals 4, 5, 6 and 9).
use Rattle.std.specs.Prelude.{ℕ, ◌-◌, Bool, ◌&&◌, List, length, get_or, ltb, leb, eqb}
use Rattle.entries.specs.First.{first}

-- word k of a list is not above the one before
abbrev pub falls : List ℕ → ℕ → Bool
falls ws k = ltb 0 k && leb (get_or ws k 0) (get_or ws (k - 1) 0)

-- the first m words of a list are there, and strictly ascend
unfoldable pub ascend : List ℕ → ℕ → Bool
ascend ws m = leb m (length ws) && eqb (first (falls ws) m) m

-- entry k is limit or more
abbrev pub beyond : List ℕ → ℕ → ℕ → Bool
beyond entries limit k = leb limit (get_or entries k 0)
