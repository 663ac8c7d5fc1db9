-- Labels as marks, a byte for each label: the chosen labels of a table, in 4,096 bytes, and the labels that a transition keeps.
use Rattle.std.specs.Prelude.{ℕ, suc, Bool, cond, List, [], ◌∷◌, eqb, get_or}

-- label l is marked: its byte is 1
unfoldable pub is_marked : List ℕ → ℕ → Bool
is_marked marks l = eqb (get_or marks l 0) 1

-- the labels that bytes mark, ascending, where the first byte is that of label k; and where it is that of label 0
unfoldable pub positions_from : ℕ → List ℕ → List ℕ
positions_from k [] = []
positions_from k (b ∷ bs) = cond (eqb b 1) (k ∷ positions_from (suc k) bs) (positions_from (suc k) bs)

unfoldable pub positions : List ℕ → List ℕ
positions bs = positions_from 0 bs
