-- The first words or bytes of one list before the rest of another.
use Rattle.std.specs.Prelude.{ℕ, List, ◌++◌, take, drop}

-- the first n words or bytes of `from`, and then what stood behind them
unfoldable pub copied : List ℕ → ℕ → List ℕ → List ℕ
copied from n out = take n from ++ drop n out
