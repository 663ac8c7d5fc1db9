-- The text of a listing (document 01, "A listing, whole"), as bytes: numbers in decimal, one space between two fields, a newline
-- right after the last field of each line.
use Rattle.std.specs.Prelude.{ℕ, zero, suc, ◌+◌, ◌/◌, ◌%◌, cond, List, [], ◌∷◌, ◌++◌, ltb}
use Prim.Native.Char.{code}
use Prim.Native.String.{String, [] as empty, ◌∷◌ as ◌then◌}

-- a text of ASCII characters, a byte for each
abbrev pub ascii : String → List ℕ
ascii empty = []
ascii (c then s) = code c ∷ ascii s

abbrev pub space : ℕ
space = 32

abbrev pub newline : ℕ
newline = 10

-- the digits of a number: those of its tenth, and its last one. `steps` bounds how often a tenth is taken; the number itself is
-- always enough
unfoldable pub digits : ℕ → ℕ → List ℕ
digits zero n = (48 + n) ∷ []
digits (suc steps) n = cond (ltb n 10) ((48 + n) ∷ []) (digits steps (n / 10) ++ ((48 + n % 10) ∷ []))

-- a number in decimal
unfoldable pub decimal : ℕ → List ℕ
decimal n = digits n n

-- a number after a space
abbrev pub field : ℕ → List ℕ
field n = space ∷ decimal n

unfoldable pub fields : List ℕ → List ℕ
fields [] = []
fields (n ∷ ns) = field n ++ fields ns

-- a word, numbers after it, and the end of the line
abbrev pub line : String → List ℕ → List ℕ
line word ns = ascii word ++ fields ns ++ (newline ∷ [])

-- "accepted V N S transitions"
unfoldable pub accepted_line : ℕ → ℕ → ℕ → ℕ → List ℕ
accepted_line #V #N #S count = line "accepted" (#V ∷ #N ∷ #S ∷ count ∷ [])

-- "order" and the labels
unfoldable pub order_line : List ℕ → List ℕ
order_line labels = line "order" labels

-- the number, "assign" and its chosen labels in reported order, "keep" and its kept labels ascending
unfoldable pub transition_line : ℕ → List ℕ → List ℕ → List ℕ
transition_line k assigned kept = decimal k ++ ascii " assign" ++ fields assigned ++ line " keep" kept

-- "refused", number, place
unfoldable pub refused_line : ℕ → ℕ → List ℕ
refused_line number place = line "refused" (number ∷ place ∷ [])
