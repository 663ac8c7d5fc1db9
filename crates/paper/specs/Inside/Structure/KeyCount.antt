-- The number of distinct keys of a formula, worked out over the structure (document 01, "Numbering"): a conjunction
-- multiplies, a disjunction adds, and the empty key counts once however many alternatives have it.
use Rattle.std.specs.Prelude.{ℕ, ◌+◌, ◌*◌, Bool, true, false, cond, ◌&&◌, ◌||◌, List}
use Rattle.paper.specs.Formula.{Label, has, Formula, Formulas, only, ◌⨾◌}
use Rattle.paper.specs.Inside.Structure.Fold.{Fold, fold_of}

-- how many keys are not empty, and whether the empty key is one of them
pub record KeyCount : Type 0 where
  pub more : ℕ
  pub empty : Bool

abbrev pub key_count : ℕ → Bool → KeyCount
key_count n e = record { more = n; empty = e }

-- all keys
abbrev pub number : KeyCount → ℕ
number k = k.more + cond k.empty 1 0

-- one key, of a leaf that is chosen or not
abbrev pub leaf_keys : Bool → KeyCount
leaf_keys chosen = cond chosen (key_count 1 false) (key_count 0 true)

abbrev pub unit_keys : Bool → KeyCount
unit_keys conj = key_count 0 conj

-- a key of a conjunction is empty if both its parts are
abbrev pub join_keys : Bool → KeyCount → KeyCount → KeyCount
join_keys true a b = key_count (a.more * number b + cond a.empty b.more 0) (a.empty && b.empty)
join_keys false a b = key_count (a.more + b.more) (a.empty || b.empty)

abbrev pub key_fold : List Label → Fold KeyCount
key_fold A = record {
  at_false = λ l. leaf_keys (has A l);
  at_test = λ l. leaf_keys (has A l);
  at_candidate = λ l v. leaf_keys (has A l);
  unit = unit_keys;
  join = join_keys;
}

abbrev pub key_count_of : List Label → Formula → KeyCount
key_count_of A f = fold_of (key_fold A) f

-- the number of distinct keys of a formula, and of a conjunction's children
abbrev pub number_of : List Label → Formula → ℕ
number_of A f = number (key_count_of A f)

abbrev pub number_of_each : List Label → Formulas → ℕ
number_of_each A (only f) = number_of A f
number_of_each A (f ⨾ fs) = number_of A f * number_of_each A fs
