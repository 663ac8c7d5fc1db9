-- Counts of keys, joined: how many keys the branches of a join have, from how many its parts' have. The join is associative and has a
-- unit, so that the keys of a join's children may be counted from either end.
use Prim.Native.Nat.{ℕ, ◌+◌, ◌*◌}
use native.Mathlib.Omega.{arith}
use native.Mathlib.Nat.{zero-mul, add-mul, mul_assoc}
use mathlib.Core.Path.{◌≡◌, refl, sym, ap, ap₂, ◌∙◌}
use mathlib.Core.Bool.{Bool, true, false, cond, ◌&&◌, ◌||◌, and_assoc, or_assoc}
use mathlib.Core.List.{List}
use Rattle.paper.specs.Formula.{Label, Formulas}
use Rattle.paper.specs.Formula.{only, ◌⨾◌}
use Rattle.paper.specs.Inside.Structure.Fold.{fold_all}
use Rattle.paper.specs.Inside.Structure.KeyCount.{KeyCount, key_count, number, unit_keys, join_keys, key_fold, key_count_of, number_of, number_of_each}
use Rattle.paper.proofs.Folds.{joined_from_right, from-the-unit}

-- counts of keys, joined
pub number-of-both : (a b : KeyCount) → number (join_keys true a b) ≡ number a * number b
number-of-both a b = go a.more a.empty
  where
    go : (n : ℕ) (e : Bool) → n * number b + cond e b.more 0 + cond (e && b.empty) 1 0 ≡ (n + cond e 1 0) * number b
    go n true = let h = add-mul n 1 (number b) in omega arith
    go n false = let h = add-mul n 0 (number b) in omega arith

-- the empty key, where both have it, counts once
pub number-of-either : (a b : KeyCount) → number (join_keys false a b) + cond (a.empty && b.empty) 1 0 ≡ number a + number b
number-of-either a b = go a.empty b.empty
  where
    go : (d e : Bool) → a.more + b.more + cond (d || e) 1 0 + cond (d && e) 1 0 ≡ a.more + cond d 1 0 + (b.more + cond e 1 0)
    go true true = omega arith
    go true false = omega arith
    go false true = omega arith
    go false false = omega arith

pub join_keys-assoc : (c : Bool) (a b d : KeyCount) → join_keys c (join_keys c a b) d ≡ join_keys c a (join_keys c b d)
join_keys-assoc true a b d =
    ap₂ key_count (go a.empty (ap (λ n. a.more * n) (number-of-both b d)) (mul_assoc a.more (number b) (number d)))
    (and_assoc a.empty b.empty d.empty)
  where
    go : (e : Bool) → a.more * number (join_keys true b d) ≡ a.more * (number b * number d) → a.more * number b * number d ≡ a.more * (number b * number d)
        → (a.more * number b + cond e b.more 0) * number d + cond (e && b.empty) d.more 0
        ≡ a.more * number (join_keys true b d) + cond e (b.more * number d + cond b.empty d.more 0) 0
    go true p q = let h = add-mul (a.more * number b) b.more (number d) in omega arith
    go false p q = let h = add-mul (a.more * number b) 0 (number d) in omega arith
join_keys-assoc false a b d = ap₂ key_count (omega arith) (or_assoc a.empty b.empty d.empty)

pub join_keys-unit : (c : Bool) (a : KeyCount) → join_keys c (unit_keys c) a ≡ a
join_keys-unit true a = ap (λ n. key_count n a.empty) (let h = zero-mul (number a) in omega arith)
join_keys-unit false a = ap (λ n. key_count n a.empty) (omega arith)

module _ (A : List Label) where
  -- the keys of a join's children, counted from the right
  abbrev pub count_of_all : Bool → Formulas → KeyCount
  count_of_all = joined_from_right (key_fold A)

  pub count-joined : (c : Bool) (fs : Formulas) → fold_all (key_fold A) c (unit_keys c) fs ≡ count_of_all c fs
  count-joined c fs = from-the-unit (key_fold A) c (join_keys-assoc c) (join_keys-unit c) fs

  pub number-each : (fs : Formulas) → number_of_each A fs ≡ number (count_of_all true fs)
  number-each (only f) = refl
  number-each (f ⨾ fs) = ap (λ n. number_of A f * n) (number-each fs) ∙ sym (number-of-both (key_count_of A f) (count_of_all true fs))
