-- The document's listing P can be asked for its transitions 0 and 1; transition 1 keeps 1 and 6, and its
-- assignments are 1 and 6.
use Prim.Native.Nat.{ℕ, zero, suc, ◌<◌}
use native.Mathlib.Omega.{arith}
use mathlib.Core.Path.{◌≡◌, refl}
use mathlib.Core.Bool.{true}
use mathlib.Core.List.{List, [], ◌∷◌}
use lib.ListN.{get_or, replicate}
use Rattle.paper.specs.Formula.{ℓ, has}
use Rattle.paper.specs.Inside.Structure.Kept.{kept_at}
use Rattle.entries.specs.First.{first}
use Rattle.rows.specs.Rows.{form_of, meets, taken_before, false_rule, star_rule, candidate_rule, join_rule, bound_rule, ends_within, keeps_rules}
use Rattle.entries.specs.Entries.{ascend}
use Rattle.rows.specs.Formula.{star_at, children_at, node_at, formula_at}
use Rattle.rows.specs.Inside.Walk.{Shaped, value_at}
use Rattle.written.specs.Example.{P}
use Rattle.rows.proofs.Shaped.{shaped}
use Rattle.marks.specs.Marks.{is_marked}
use Rattle.keys.specs.Inside.Keys.{join_keys, total, keys_at}
use Rattle.transitions.specs.Inside.Kept.{Keepable, bytes_of}
use Rattle.transitions.specs.Inside.Assigned.{kept_of, Fillable}

abbrev rows_of_p : List ℕ
rows_of_p = 3 ∷ 2 ∷ 8 ∷ 0 ∷ 2 ∷ 0 ∷ 3 ∷ 0 ∷ 1 ∷ 0 ∷ 3 ∷ 0 ∷ 4 ∷ 2 ∷ 8 ∷ 0 ∷ 2 ∷ 1 ∷ 6 ∷ 0 ∷ 1 ∷ 1 ∷ 6 ∷ 0 ∷ 2 ∷ 1 ∷ 8 ∷ 1 ∷ 1 ∷ 0 ∷ 8 ∷ 1 ∷ []

-- the marks of the strategy 1 4 6
abbrev marks_of_p : List ℕ
marks_of_p = 0 ∷ 1 ∷ 0 ∷ 0 ∷ 1 ∷ 0 ∷ 1 ∷ 0 ∷ replicate 4088 0

keep : (i : ℕ) → i < 8 → keeps_rules rows_of_p (0 ∷ []) 2 8 i ≡ true
unfolding first form_of meets ascend taken_before false_rule star_rule candidate_rule join_rule bound_rule ends_within keeps_rules
keep zero h = refl
keep (suc zero) h = refl
keep (suc (suc zero)) h = refl
keep (suc (suc (suc zero))) h = refl
keep (suc (suc (suc (suc zero)))) h = refl
keep (suc (suc (suc (suc (suc zero))))) h = refl
keep (suc (suc (suc (suc (suc (suc zero)))))) h = refl
keep (suc (suc (suc (suc (suc (suc (suc zero))))))) h = refl
keep (suc (suc (suc (suc (suc (suc (suc (suc i)))))))) h = absurd (omega arith)

P-has-two : total (keys_at rows_of_p marks_of_p 64 0) ≡ 2
unfolding is_marked join_keys form_of star_at children_at node_at formula_at value_at
P-has-two = refl

P-shaped : Shaped rows_of_p 8
P-shaped = shaped rows_of_p (0 ∷ []) 2 8 keep (omega arith) (omega arith)

P-keepable : (k : ℕ) → k < 2 → Keepable rows_of_p marks_of_p (replicate 8 7) 8 0 64 (keys_at rows_of_p marks_of_p 64 0) k
P-keepable k h = record {
  here = omega arith;
  room = omega arith;
  size = refl;
  own_are = refl;
  few = omega (arith, P-has-two);
  among = omega (arith, P-has-two);
}

bytes_of1 : List ℕ
bytes_of1 = 0 ∷ 1 ∷ 0 ∷ 0 ∷ 0 ∷ 0 ∷ 1 ∷ 0 ∷ []

P-transition-1 : bytes_of (has (kept_at (ℓ 1 ∷ ℓ 4 ∷ ℓ 6 ∷ []) P 1)) 8 ≡ bytes_of1
unfolding bytes_of1
P-transition-1 = refl

P-assigned-1 : kept_of bytes_of1 (1 ∷ 4 ∷ 6 ∷ []) ≡ 1 ∷ 6 ∷ []
unfolding bytes_of1 is_marked
P-assigned-1 = refl

P-fillable : Fillable (1 ∷ 4 ∷ 6 ∷ []) 3 bytes_of1 (0 ∷ 0 ∷ [])
unfolding bytes_of1 is_marked
P-fillable = record { there = omega arith; below = below; room = omega arith }
  where
    below : (k : ℕ) → k < 3 → get_or (1 ∷ 4 ∷ 6 ∷ []) k 0 < 8
    below zero h = omega arith
    below (suc zero) h = omega arith
    below (suc (suc zero)) h = omega arith
    below (suc (suc (suc k))) h = absurd (omega arith)
