-- The labels that transition k keeps, child by child as code goes (document 01, "Key" and "Numbering"). `kept_at` of crate
-- paper is what they are.
use Rattle.std.specs.Prelude.{ℕ, ◌-◌, ◌/◌, ◌%◌, ◌<◌, ◌≤◌, Bool, true, false, cond, not, List, [], ◌∷◌, ◌++◌, map, ◌≡◌, eqb, ltb, length, set, drop}
use Rattle.std.specs.Prelude.{Option, None, Some}
use Rattle.std.specs.Bool.{then_some}
use Rattle.paper.specs.Limits.{most_depth, most_rows, most_transitions}
use Rattle.paper.specs.declared.Label.{Label}
use Rattle.paper.specs.Formula.{has}
use Rattle.paper.specs.Inside.Structure.Kept.{kept_at}
use Rattle.rows.specs.declared.form.Form.{Form}
use Rattle.rows.specs.declared.form.Form.TheVariants as form
use Rattle.rows.specs.Formula.{formula_at}
use Rattle.written.specs.Written.{labels_on}
use Rattle.keys.specs.declared.Distinct.{Distinct}
use Rattle.marks.specs.Inside.Chosen.{Marked}
use Rattle.keys.specs.Inside.Keys.{total, keys_at}
use Rattle.transitions.specs.declared.Shares.{Shares}
use Rattle.transitions.specs.declared.Shares.TheVariants.{Each, All, One, Done}
use Rattle.transitions.specs.declared.Turn.{Turn}

abbrev pub turn : Option ℕ → Shares → Turn
turn key next = record { key = key; next = next }

-- where one child takes part: this one if k is one of its own keys, else one after it
abbrev pub one_turn : Bool → ℕ → ℕ → Turn
one_turn true k own = turn (Some k) Done
one_turn false k own = turn None (One (k - own))

-- the turn of a child that has so many keys of its own
unfoldable pub turn_of : Shares → ℕ → Turn
turn_of (Each k all) own = turn (Some (k / (all / own))) (Each (k % (all / own)) (all / own))
turn_of All own = turn (then_some (not (eqb own 0)) 0) All
turn_of (One k) own = one_turn (ltb k own) k own
turn_of Done own = turn None Done

-- where all take part by quotient and remainder, a child's keys divide those of all
abbrev pub CanTake : Shares → ℕ → Type 0
CanTake (Each k all) own = (0 < own) × (own ≤ all)
CanTake All own = Unit {0}
CanTake (One k) own = Unit {0}
CanTake Done own = Unit {0}

-- a conjunction's children go by quotient and remainder, and so does the one of an exists
abbrev pub goes_by_each : Form → Bool
goes_by_each form.False = false
goes_by_each form.Star = false
goes_by_each form.Candidate = false
goes_by_each form.Conjunction = true
goes_by_each form.Disjunction = false
goes_by_each form.Exists = true
goes_by_each form.If = false
goes_by_each form.Unknown = false

-- how the children of a join with these keys take part in its key k
unfoldable pub shares_of : Bool → Distinct → ℕ → Shares
shares_of true keys k = Each k (total keys)
shares_of false keys k = cond keys.empty All (One k)

-- the bytes of some labels set to 1, the others as they were
unfoldable pub marked_by : List Label → List ℕ → List ℕ
marked_by [] out = out
marked_by (l ∷ ls) out = marked_by ls (set out l.0 1)

-- What a walk to the labels of key k of the formula at row i asks: i is one of the rows, a byte for each, a mark for each label,
-- the formula's own keys, no more than the limit, and k among them.
pub record Keepable (rows marks out : List ℕ) (#N i left : ℕ) (own : Distinct) (k : ℕ) : Type 0 where
  pub here : i < #N
  pub room : #N ≤ length out
  pub size : length marks ≡ most_rows
  pub own_are : own ≡ keys_at rows marks left i
  pub few : total own ≤ most_transitions
  pub among : k < total own

-- The bytes afterwards: those of the labels that key k keeps are set, whatever strategy the marks are of and whatever the
-- stars read.
pub record KeptAfter (rows marks : List ℕ) (left i k : ℕ) (before after : List ℕ) : Type 0 where
  pub bytes_are : (A : List Label) → Marked A marks → (reads : List ℕ) → after ≡ marked_by (kept_at A (formula_at rows reads left i) k) before

-- a byte for each of the labels below n: 1 for those that pass the test, else 0
abbrev pub bytes_of : (Label → Bool) → ℕ → List ℕ
bytes_of p n = map (λ l. cond (p l) 1 0) (labels_on 0 n)

-- The bytes after transition k of n rows is marked: first one for each label, 1 for those that it keeps, and the others as they
-- were.
pub record MarkedKept (rows marks : List ℕ) (#N k : ℕ) (before after : List ℕ) : Type 0 where
  pub bytes_are : (A : List Label) → Marked A marks → (reads : List ℕ)
      → after ≡ bytes_of (has (kept_at A (formula_at rows reads most_depth 0) k)) #N ++ drop #N before
