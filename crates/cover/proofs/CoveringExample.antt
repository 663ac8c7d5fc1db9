-- Cases of document 01 at refusals 11 and 12, computed: the listing P, x' in s and x' in s, x' in s or FALSE; and a candidate of
-- variable 256, which is not variable 0.
use Prim.Native.Nat.{ℕ}
use mathlib.Core.Path.{◌≡◌, refl}
use mathlib.Core.Bool.{true, false}
use mathlib.Core.List.{List, [], ◌∷◌}
use lib.ListN.{drop}
use Rattle.std.specs.Prelude.{Ok, Err}
use Rattle.paper.specs.Formula.{𝓋}
use Rattle.entries.specs.First.{first}
use Rattle.rows.specs.Rows.{form_of}
use Rattle.rows.specs.Formula.{star_at, children_at, node_at, formula_at}
use Rattle.rows.specs.Inside.Walk.{value_at}
use Rattle.written.specs.Example.{words_of_p}
use Rattle.cover.specs.declared.Uncovered.TheVariants.{Missed, Doubled}
use Rattle.marks.specs.Marks.{is_marked}
use Rattle.cover.specs.Inside.Masks.{unit_masks, join_masks, mask_of, bit_at, is_missed, is_doubled, covering_of}

abbrev rows_of_p : List ℕ
rows_of_p = drop 6 words_of_p

-- with strategy 1 4 6, and with 1 4
P-is-covered : covering_of rows_of_p (0 ∷ 1 ∷ 0 ∷ 0 ∷ 1 ∷ 0 ∷ 1 ∷ []) 2 ≡ Ok tt
unfolding first form_of star_at children_at node_at formula_at value_at is_marked unit_masks join_masks mask_of bit_at is_missed is_doubled covering_of
P-is-covered = refl

y-is-missed : covering_of rows_of_p (0 ∷ 1 ∷ 0 ∷ 0 ∷ 1 ∷ []) 2 ≡ Err (Missed (𝓋 1))
unfolding first form_of star_at children_at node_at formula_at value_at is_marked unit_masks join_masks mask_of bit_at is_missed is_doubled covering_of
y-is-missed = refl

-- x' in s and x' in s, with strategy 1 3
abbrev twice_x : List ℕ
twice_x = 3 ∷ 2 ∷ 5 ∷ 0 ∷ 2 ∷ 0 ∷ 3 ∷ 0 ∷ 1 ∷ 0 ∷ 3 ∷ 0 ∷ 2 ∷ 0 ∷ 5 ∷ 0 ∷ 1 ∷ 0 ∷ 5 ∷ 0 ∷ []

x-is-doubled : covering_of twice_x (0 ∷ 1 ∷ 0 ∷ 1 ∷ []) 1 ≡ Err (Doubled (𝓋 0))
unfolding first form_of star_at children_at node_at formula_at value_at is_marked unit_masks join_masks mask_of bit_at is_missed is_doubled covering_of
x-is-doubled = refl

-- x' in s or FALSE, with strategy 1
abbrev x_or_false : List ℕ
x_or_false = 4 ∷ 2 ∷ 4 ∷ 0 ∷ 2 ∷ 0 ∷ 3 ∷ 0 ∷ 1 ∷ 0 ∷ 3 ∷ 0 ∷ 0 ∷ 0 ∷ 4 ∷ 0 ∷ []

x-is-missed : covering_of x_or_false (0 ∷ 1 ∷ []) 1 ≡ Err (Missed (𝓋 0))
unfolding first form_of star_at children_at node_at formula_at value_at is_marked unit_masks join_masks mask_of bit_at is_missed is_doubled covering_of
x-is-missed = refl

abbrev only256 : List ℕ
only256 = 2 ∷ 256 ∷ 2 ∷ 0 ∷ 1 ∷ 0 ∷ 2 ∷ 0 ∷ []

variable-256 : (is_missed only256 (1 ∷ []) 256 ≡ false) × (is_missed only256 (1 ∷ []) 0 ≡ true)
unfolding form_of star_at children_at node_at formula_at value_at is_marked unit_masks join_masks mask_of bit_at is_missed
variable-256 = (refl, refl)
