-- The number of distinct keys (refusal 14), held below a limit: once it is past 65,535 it stays at 65,536.
use Rattle.std.specs.Prelude.{ℕ, ◌+◌, ◌*◌, min, Bool, true, false, cond, ◌&&◌, ◌||◌, List}
use Rattle.paper.specs.Limits.{most_transitions}
use Rattle.paper.specs.Inside.Structure.Fold.{Fold}
use Rattle.rows.specs.Inside.Walk.{value_at}
use Rattle.keys.specs.declared.Distinct.{Distinct}
use Rattle.marks.specs.Marks.{is_marked}

-- one more than an accepted table can have
abbrev pub limit : ℕ
limit = most_transitions + 1

abbrev pub keys_of : ℕ → Bool → Distinct
keys_of n e = record { more = n; empty = e }

-- all keys, the empty one among them
abbrev pub total : Distinct → ℕ
total k = k.more + cond k.empty 1 0

abbrev pub leaf_keys : Bool → Distinct
leaf_keys chosen = cond chosen (keys_of 1 false) (keys_of 0 true)

unfoldable pub join_keys : Bool → Distinct → Distinct → Distinct
join_keys true a b = keys_of (min limit (a.more * total b + cond a.empty b.more 0)) (a.empty && b.empty)
join_keys false a b = keys_of (min limit (a.more + b.more)) (a.empty || b.empty)

abbrev pub keys_fold : List ℕ → Fold Distinct
keys_fold marks = record {
  at_false = λ l. leaf_keys (is_marked marks l.0);
  at_test = λ l. leaf_keys (is_marked marks l.0);
  at_candidate = λ l v. leaf_keys (is_marked marks l.0);
  unit = λ conj. keys_of 0 conj;
  join = join_keys;
}

-- the keys of the formula that rows write
abbrev pub keys_at : List ℕ → List ℕ → ℕ → ℕ → Distinct
keys_at rows marks left i = value_at (keys_fold marks) rows left i
