-- The listing of document 01, byte by byte, is the value of the definitions.
use Prim.Native.Nat.{ℕ}
use mathlib.Core.Path.{◌≡◌, refl}
use mathlib.Core.List.{List, [], ◌∷◌, ◌++◌}
use Rattle.marks.specs.Marks.{positions_from, positions}
use Rattle.listing.specs.Text.{ascii, digits, decimal, fields, accepted_line, order_line, transition_line, refused_line}

abbrev document : List ℕ
document =
    (97 ∷ 99 ∷ 99 ∷ 101 ∷ 112 ∷ 116 ∷ 101 ∷ 100 ∷ 32 ∷ 50 ∷ 32 ∷ 56 ∷ 32 ∷ 51 ∷ 32 ∷ 50 ∷ 10 ∷ [])
    ++ (111 ∷ 114 ∷ 100 ∷ 101 ∷ 114 ∷ 32 ∷ 49 ∷ 32 ∷ 52 ∷ 32 ∷ 54 ∷ 10 ∷ [])
    ++ (48 ∷ 32 ∷ 97 ∷ 115 ∷ 115 ∷ 105 ∷ 103 ∷ 110 ∷ 32 ∷ 49 ∷ 32 ∷ 52 ∷ 32 ∷ 107 ∷ 101 ∷ 101 ∷ 112 ∷ 32 ∷ 49 ∷ 32 ∷ 52 ∷ 10 ∷ [])
    ++ (49 ∷ 32 ∷ 97 ∷ 115 ∷ 115 ∷ 105 ∷ 103 ∷ 110 ∷ 32 ∷ 49 ∷ 32 ∷ 54 ∷ 32 ∷ 107 ∷ 101 ∷ 101 ∷ 112 ∷ 32 ∷ 49 ∷ 32 ∷ 54 ∷ 10 ∷ [])

document-as-text : document ≡ ascii "accepted 2 8 3 2\norder 1 4 6\n0 assign 1 4 keep 1 4\n1 assign 1 6 keep 1 6\n"
document-as-text = refl

-- the bytes of the two transitions, 1 for a kept label
abbrev bytes0 : List ℕ
bytes0 = 0 ∷ 1 ∷ 0 ∷ 0 ∷ 1 ∷ 0 ∷ 0 ∷ 0 ∷ []

abbrev bytes1 : List ℕ
bytes1 = 0 ∷ 1 ∷ 0 ∷ 0 ∷ 0 ∷ 0 ∷ 1 ∷ 0 ∷ []

abbrev listing : List ℕ
listing =
    accepted_line 2 8 3 2
    ++ order_line (1 ∷ 4 ∷ 6 ∷ [])
    ++ transition_line 0 (1 ∷ 4 ∷ []) (positions bytes0)
    ++ transition_line 1 (1 ∷ 6 ∷ []) (positions bytes1)

listing-is-the-document : listing ≡ document
unfolding digits decimal fields accepted_line order_line transition_line positions_from positions
listing-is-the-document = refl

refusal-is-its-text : refused_line 13 4095 ≡ ascii "refused 13 4095\n"
unfolding digits decimal fields refused_line
refusal-is-its-text = refl

edges-of-digits : (decimal 0 ≡ ascii "0") × (decimal 9 ≡ ascii "9") × (decimal 10 ≡ ascii "10") × (decimal 65535 ≡ ascii "65535")
unfolding digits decimal
edges-of-digits = (refl, refl, refl, refl)
