-- What the branches of a formula have of 64 variables at a time (refusals 11 and 12): the cover of one variable, bit by bit.
-- Variable 64 * block + b is bit b of block `block`.
use Rattle.std.specs.Prelude.{ℕ, ◌+◌, ◌/◌, ◌%◌, ◌^◌, Bool, true, false, cond, not, ◌&&◌, List, [], ◌∷◌, eqb, ltb}
use Rattle.std.specs.Int.Bits.{bit_and, bit_or}
use Rattle.std.specs.Prelude.{Option, None, Some, Result, Ok, Err}
use Rattle.std.specs.Option.{unwrap_or}
use Rattle.paper.specs.declared.Refusal.{Refusal}
use Rattle.paper.specs.declared.refusals.Fault.TheVariants.{VariableMissed, VariableTwice}
use Rattle.paper.specs.Refusals.{refusal}
use Rattle.paper.specs.Limits.{most_depth}
use Rattle.paper.specs.declared.Variable.{Variable}
use Rattle.paper.specs.Formula.{𝓋}
use Rattle.paper.specs.Judgement.{Judgement, refused}
use Rattle.paper.specs.Inside.Structure.Fold.{Fold}
use Rattle.entries.specs.First.{first}
use Rattle.rows.specs.Inside.Walk.{value_at}
use Rattle.cover.specs.declared.Masks.{Masks}
use Rattle.cover.specs.declared.Uncovered.{Uncovered}
use Rattle.cover.specs.declared.Uncovered.TheVariants.{Missed, Doubled}
use Rattle.marks.specs.Marks.{is_marked}

abbrev pub all_bits : ℕ
all_bits = 18446744073709551615

abbrev pub as_masks : ℕ → ℕ → ℕ → Masks
as_masks a e t = record { always = a; ever = e; twice = t }

-- what there is where there is no branch: each of none has all
abbrev pub no_branch : Masks
no_branch = as_masks all_bits 0 0

-- one branch that has a chosen candidate of the variables of a mask
abbrev pub leaf_masks : ℕ → Option Masks
leaf_masks mask = Some (as_masks mask mask 0)

-- one branch with no chosen label
abbrev pub nothing_chosen : Option Masks
nothing_chosen = leaf_masks 0

-- a conjunction starts from one branch with nothing on it, any other join from no branch
unfoldable pub unit_masks : Bool → Option Masks
unit_masks true = nothing_chosen
unit_masks false = None

-- where one side of a conjunction has no branch, the conjunction has none
unfoldable pub join_masks : Bool → Option Masks → Option Masks → Option Masks
join_masks true None b = None
join_masks true (Some a) None = None
join_masks true (Some a) (Some b) =
    Some (as_masks (bit_or a.always b.always) (bit_or a.ever b.ever) (bit_or (bit_or a.twice b.twice) (bit_and a.ever b.ever)))
join_masks false None b = b
join_masks false (Some a) None = Some a
join_masks false (Some a) (Some b) = Some (as_masks (bit_and a.always b.always) (bit_or a.ever b.ever) (bit_or a.twice b.twice))

-- the bit of a chosen candidate whose variable is of the block, else no bit
unfoldable pub mask_of : List ℕ → ℕ → ℕ → ℕ → ℕ
mask_of marks block l v = cond (eqb (v / 64) block && is_marked marks l) (2 ^ (v % 64)) 0

abbrev pub masks_fold : List ℕ → ℕ → Fold (Option Masks)
masks_fold marks block = record {
  at_false = λ l. nothing_chosen;
  at_test = λ l. nothing_chosen;
  at_candidate = λ l v. leaf_masks (mask_of marks block l.0 v.0);
  unit = unit_masks;
  join = join_masks;
}

-- the masks of the formula that rows write, for the variables of a block
abbrev pub masks_at : List ℕ → List ℕ → ℕ → ℕ → ℕ → Option Masks
masks_at rows marks block left i = value_at (masks_fold marks block) rows left i

-- those of the whole formula
abbrev pub masks_in : List ℕ → List ℕ → ℕ → Masks
masks_in rows marks block = unwrap_or (masks_at rows marks block most_depth 0) no_branch

-- bit b of a word
unfoldable pub bit_at : ℕ → ℕ → Bool
bit_at w b = eqb (w / 2 ^ b % 2) 1

-- some branch has no chosen candidate of variable v; some branch has two or more
unfoldable pub is_missed : List ℕ → List ℕ → ℕ → Bool
is_missed rows marks v = not (bit_at (masks_in rows marks (v / 64)).always (v % 64))

unfoldable pub is_doubled : List ℕ → List ℕ → ℕ → Bool
is_doubled rows marks v = bit_at (masks_in rows marks (v / 64)).twice (v % 64)

-- whether each variable has exactly one chosen label on each branch
abbrev pub Covering : Type 0
Covering = Result (Unit {0}) Uncovered

-- the lowest variable that is missed, else the lowest that is doubled
abbrev pub lowest_of : ℕ → ℕ → ℕ → Covering
lowest_of #V missed doubled = cond (ltb missed #V) (Err (Missed (𝓋 missed))) (cond (ltb doubled #V) (Err (Doubled (𝓋 doubled))) (Ok tt))

unfoldable pub covering_of : List ℕ → List ℕ → ℕ → Covering
covering_of rows marks #V = lowest_of #V (first (is_missed rows marks) #V) (first (is_doubled rows marks) #V)

-- the lowest below m + v, from the lowest below v and the lowest of the m after that
abbrev pub further : ℕ → ℕ → ℕ → ℕ
further low v found = cond (ltb low v) low (found + v)

-- what the variables that are missed and those that are doubled give: the first of either
abbrev pub covering_by : List Variable → List Variable → Covering
covering_by [] [] = Ok tt
covering_by [] (v ∷ others) = Err (Doubled v)
covering_by (v ∷ others) doubled = Err (Missed v)

-- the refusal of a variable that is not covered: 11 or 12, at the variable
abbrev pub refusal_of : Uncovered → Refusal
refusal_of (Missed v) = refusal VariableMissed v.0
refusal_of (Doubled v) = refusal VariableTwice v.0

-- the refusal that a covering gives, or else what follows
abbrev pub judgement_of : Covering → Judgement → Judgement
judgement_of (Err x) next = refused (refusal_of x)
judgement_of (Ok x) next = next
