-- What is proved of the definitions, as statements to be read without their proofs; proofs/Theorems.antt proves each, and
-- docs/PROMISES.md lists them with their theorems. Each statement stands alone: what it asks of the formula, of the number of
-- variables and of the proposal A stands in its own type, and a theorem adds nothing to it.
use Rattle.std.specs.Prelude.{ℕ, ◌<◌, ◌≤◌, Bool, true, false, ◌||◌, ◌≡◌, ◌↔◌, length}
use mathlib.Core.List.{List, [], ◌∷◌, Memᴰ}
use Rattle.paper.specs.Limits.{most_transitions}
use Rattle.paper.specs.Lists.{any_of, those}
use Rattle.paper.specs.Formula.{Label, Variable, ℓ, has, Formula, labels, Rising, WellFormed}
use Rattle.paper.specs.Branch.{branches}
use Rattle.paper.specs.BoolForm.{MinimalModel}
use Rattle.paper.specs.Frozen.{frozen, Constrained}
use Rattle.paper.specs.Before.{before, share_branch}
use Rattle.paper.specs.Order.{Acyclic, order, Chain, on_cycle, OrderOf}
use Rattle.paper.specs.Strategy.{Homogeneous, MinimalCovering, Strategy, reported_order}
use Rattle.paper.specs.Transition.{slice_by, key, class, is_kept, keys, key_at, transitions}
use Rattle.paper.specs.Meaning.{Meaning, True}
use Rattle.paper.specs.Carry.{Carried, unset}
use Rattle.paper.specs.declared.refusals.Fault.TheVariants.{NoOrder}
use Rattle.paper.specs.Refusals.{refusal}
use Rattle.paper.specs.Judgement.{accepted, refused, missed, doubled, judge}
use Rattle.paper.specs.Inside.Structure.Cover.{cover_of}
use Rattle.paper.specs.Inside.Structure.KeyCount.{number_of}
use Rattle.paper.specs.Inside.Structure.Kept.{kept_at}
use Rattle.paper.specs.Inside.Structure.Share.{some_branch_holds}

-- 1. Branches as document 01 reads them are exactly the minimal models of bool_form, the paper's own definition, where labels
-- ascend in preorder, as a table's do.
pub record ListsMinimalModels (f : Formula) : Type 0 where
  pub each : (b : List Label) → Memᴰ b (branches f) → MinimalModel f (has b)
  pub all : (S : Label → Bool) → MinimalModel f S → (b : List Label) × Memᴰ b (branches f) × ((l : Label) → S l ≡ has b l)

abbrev pub BranchesAreMinimalModels : Formula → Type 0
BranchesAreMinimalModels f = Rising 0 (labels f) → ListsMinimalModels f

-- 2. Frozen sets are the least solution of Table 1's constraints, where labels ascend in preorder.
pub record LeastSolution (f : Formula) : Type 0 where
  pub solves : Constrained (frozen f) f
  pub least : (F : Label → Variable → Bool) → Constrained F f → (l : Label) (v : Variable) → frozen f l v ≡ true → F l v ≡ true

abbrev pub FrozenIsLeast : Formula → Type 0
FrozenIsLeast f = Rising 0 (labels f) → LeastSolution f

-- 3. Propositions 5 to 8 and Theorem 2 of document 001, under every meaning m and values xs of the bound variables around.
module _ (m : Meaning) (xs : List ℕ) (f : Formula) where
  abbrev pub Proposition5 : Type 0
  Proposition5 = True m xs f → (b : List Label) × Memᴰ b (branches f) × True m xs (slice_by (has b) f)

  -- for any set of labels, not only a branch
  abbrev pub Proposition6 : Type 0
  Proposition6 = (S : Label → Bool) → True m xs (slice_by S f) → True m xs f

  abbrev pub Proposition7 : Type 0
  Proposition7 = (S T : Label → Bool) → True m xs (slice_by S f) → True m xs (slice_by (λ l. S l || T l) f)

  -- the union of a selection of branches
  abbrev pub union : List (List Label) → Label → Bool
  union bs l = any_of (λ b. has b l) bs

  -- the selection's branches may be any; where they are of one class of a strategy, so is the branch found
  pub record Proposition8 : Type 0 where
    pub some_branch : (bs : List (List Label)) → ((b : List Label) → Memᴰ b bs → Memᴰ b (branches f)) → True m xs (slice_by (union bs) f)
        → (b : List Label) × Memᴰ b (branches f) × True m xs (slice_by (has b) f)
    pub same_class : (#V : ℕ) → WellFormed #V f → (A : List Label) → Strategy #V f A → (c : List Label) → Memᴰ c (branches f)
        → (bs : List (List Label)) → ((b : List Label) → Memᴰ b bs → Memᴰ b (class f A (key A c))) → True m xs (slice_by (union bs) f)
        → (b : List Label) × Memᴰ b (class f A (key A c)) × True m xs (slice_by (has b) f)

  -- a formula is true exactly if one of its listed transitions is; it holds for any A
  abbrev pub Theorem2 : List Label → Type 0
  Theorem2 A = True m xs f ↔ ((t : Formula) × Memᴰ t (transitions f A) × True m xs t)

-- 4. The judgement accepts exactly the assignment strategies that cut the formula into at most 65,535 transitions.
module _ (#V : ℕ) (f : Formula) (A : List Label) where
  abbrev pub AcceptedExactly : Type 0
  AcceptedExactly = (judge #V f A ≡ accepted #V (length (labels f)) (length A) (length (keys f A))) ↔ (Strategy #V f A × (length (keys f A) ≤ most_transitions))

  -- there is no other acceptance
  abbrev pub AcceptedOnlySo : Type 0
  AcceptedOnlySo = (v n s t : ℕ) → judge #V f A ≡ accepted v n s t → judge #V f A ≡ accepted #V (length (labels f)) (length A) (length (keys f A))

  -- refusal 13 is at a label on a cycle, and at no higher one than need be
  pub record LowestOnCycle (place : ℕ) : Type 0 where
    pub cycle : Chain (before f A) (ℓ place) (ℓ place)
    pub lowest : (l : Label) → Chain (before f A) l l → place ≤ l.0

  abbrev pub Refusal13 : Type 0
  Refusal13 = Rising 0 A → (place : ℕ) → judge #V f A ≡ refused (refusal NoOrder place) → LowestOnCycle place

-- An order exists exactly if the greedy order places every label, exactly if there is no cycle, exactly if the test finds
-- none: for any relation R between labels of A, as "before" is.
pub record OrderExists (R : Label → Label → Bool) (A : List Label) : Type 0 where
  pub placed : Acyclic R A ↔ ((l : Label) → has A l ≡ true → has (order R A) l ≡ true)
  pub no_cycle : Acyclic R A ↔ ((l : Label) → Chain R l l → ⊥)
  pub tested : (l : Label) → (on_cycle R A l ≡ true) ↔ Chain R l l

abbrev pub Between : (Label → Label → Bool) → List Label → Type 0
Between R A = (i j : Label) → R i j ≡ true → (has A i ≡ true) × (has A j ≡ true)

abbrev pub OrderExistsExactly : (Label → Label → Bool) → List Label → Type 0
OrderExistsExactly R A = Between R A → OrderExists R A

-- 5. Keys are listed (`KeysAreListed`, specs/Transition.antt), each of #V labels where the proposal is a minimal covering by candidates.
abbrev pub KeyLength : ℕ → Formula → List Label → Type 0
KeyLength #V f A = WellFormed #V f → Homogeneous f A → MinimalCovering #V f A → (k : List Label) → Memᴰ k (keys f A) → length k ≡ #V

-- 6. Demand 3, first half: the chosen labels of any branch are carried out by any order of A that respects "before", where A is
-- a minimal covering; and where there is such an order, the reported order is one.
module _ (#V : ℕ) (f : Formula) (A : List Label) where
  abbrev pub CarriedOut : Type 0
  CarriedOut =
      WellFormed #V f → MinimalCovering #V f A → (o : List Label) → OrderOf (before f A) A o
      → (b : List Label) → Memᴰ b (branches f) → Carried #V f unset (those (has b) o)

  abbrev pub ReportedIsOrder : Type 0
  ReportedIsOrder = Acyclic (before f A) A → OrderOf (before f A) A (reported_order f A)

-- 7. The forms over the structure are what the branches say.
module _ (#V : ℕ) (f : Formula) (A : List Label) where
  pub record CoverSays (v : Variable) : Type 0 where
    pub missed : Memᴰ v (missed #V f A) ↔ ((cover_of A v f).always ≡ false)
    pub doubled : Memᴰ v (doubled #V f A) ↔ ((cover_of A v f).twice ≡ true)

  abbrev pub CountsSay : Type 0
  CountsSay = WellFormed #V f → (v : Variable) → v.0 < #V → CoverSays v

  abbrev pub SharingSays : Type 0
  SharingSays = (i j : Label) → share_branch f i j ≡ some_branch_holds f (i ∷ j ∷ [])

  pub record NumbersSay : Type 0 where
    pub count : length (keys f A) ≡ number_of A f
    pub kth_key : (k : ℕ) → k < length (keys f A) → key_at f A k ≡ key A (kept_at A f k)
    pub kth_kept : (k : ℕ) → k < length (keys f A) → (l : Label) → is_kept f A (key_at f A k) l ≡ has (kept_at A f k) l

  -- of a minimal covering by candidates
  abbrev pub KeysSay : Type 0
  KeysSay = WellFormed #V f → Homogeneous f A → MinimalCovering #V f A → NumbersSay
