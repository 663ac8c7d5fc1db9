-- What `covering_of` gives is what document 01 says of branches (refusals 11 and 12). Bit b of a block's masks is the paper's
-- cover of variable 64 * block + b: to take bit b keeps leaves, units and joins, so it carries the masks' fold to the cover's.
-- The covers say which variables are missed and which are doubled; the lowest of either is the first of its list.
use Prim.Native.Nat.{ℕ, zero, suc, ◌+◌, ◌*◌, ◌/◌, ◌%◌, ◌^◌, ◌<◌}
use native.Mathlib.Nat.{div-add-mod', mod-lt, le_refl}
use native.Mathlib.Numerals.{add-one}
use native.Mathlib.Omega.{arith}
use mathlib.Core.Path.{◌≡◌, refl, sym, ap, ◌∙◌}
use mathlib.Core.Bool.{Bool, true, false, not, cond, ◌&&◌, and-true, or-false}
use mathlib.Core.Logic.{◌↔◌}
use mathlib.Core.List.{List, [], ◌∷◌, ◌++◌, map, Memᴰ}
use lib.Dec.{eqb}
use borrow.Author.Count.{below_more}
use borrow.Author.Tests.{eq-eqb, ne_eqb, eqb-true, eqb-false, lt-ltb, le-ltb, not-true}
use Rattle.std.specs.Prelude.{Option, None, Some, Ok, Err}
use Rattle.paper.specs.Limits.{most_rows}
use Rattle.paper.specs.declared.Label.{Label}
use Rattle.paper.specs.declared.Variable.{Variable}
use Rattle.paper.specs.Lists.{those}
use Rattle.paper.specs.Formula.{𝓋, has, alike, labels, WellFormed, Formula}
use Rattle.paper.specs.declared.refusals.Fault.TheVariants.{VariableMissed, VariableTwice}
use Rattle.paper.specs.Judgement.{Judgement, refuse, variables, missed, doubled}
use Rattle.paper.specs.Inside.Structure.Fold.{fold_of}
use Rattle.paper.specs.Inside.Structure.Cover.{leaf_cover, unit_cover, join_cover, cover_fold, cover_of}
use Rattle.paper.proofs.Bools.{same_answer}
use Rattle.paper.proofs.Lists.{those-append, to-those, of-those}
use Rattle.paper.proofs.Variables.{to-variables}
use Rattle.paper.proofs.Folds.{leaves_map, carried}
use Rattle.paper.proofs.Cover.{counts-say}
use Rattle.entries.specs.First.{first}
use Rattle.rows.specs.Formula.{formula_at}
use Rattle.entries.proofs.First.{first_found, first-none, first_below, first-at, first-all, first-same}
use Rattle.rows.proofs.Walks.{value_read}
use Rattle.cover.specs.declared.Masks.{Masks}
use Rattle.cover.specs.declared.Uncovered.TheVariants.{Missed, Doubled}
use Rattle.marks.specs.Marks.{is_marked}
use Rattle.marks.specs.Inside.Chosen.{Marked}
use Rattle.cover.specs.Inside.Masks.{leaf_masks, unit_masks, join_masks, mask_of, masks_fold, masks_at}
use Rattle.cover.specs.Inside.Masks.{bit_at, is_missed, is_doubled, lowest_of, covering_of, covering_by, judgement_of}
use Rattle.cover.proofs.Leaves.{leaves-labelled}
use Rattle.cover.proofs.BothBits.{cover_at, covers, both_bits}
use Rattle.cover.proofs.Bits.{and-bit, or-bit, zero_bit, all-bit, power-bit}

module _ (b : ℕ) (h : b < 64) where
  at_leaf : (mask : ℕ) {chosen : Bool} → bit_at mask b ≡ chosen → cover_at b (leaf_masks mask) ≡ leaf_cover chosen
  at_leaf mask e = covers e e (zero_bit b)

  at_unit : (c : Bool) → cover_at b (unit_masks c) ≡ unit_cover c
  unfolding unit_masks
  at_unit true = covers (zero_bit b) (zero_bit b) (zero_bit b)
  at_unit false = covers (all-bit b h) (zero_bit b) (zero_bit b)

  at_join : (c : Bool) (v w : Option Masks) → cover_at b (join_masks c v w) ≡ join_cover c (cover_at b v) (cover_at b w)
  unfolding join_masks
  at_join true v w = both_bits b v w
  at_join false None w = rw (all-bit b h, zero_bit b)
  at_join false (Some x) None = covers (rw (all-bit b h, and-true)) (rw (zero_bit b, or-false)) (rw (zero_bit b, or-false))
  at_join false (Some x) (Some y) = covers (and-bit x.always y.always b) (or-bit x.ever y.ever b) (or-bit x.twice y.twice b)

  -- bit b of a candidate's mask: it is marked, and its variable is 64 * block + b
  mask-bit : (marks : List ℕ) (block l v : ℕ) → bit_at (mask_of marks block l v) b ≡ (is_marked marks l && eqb (64 * block + b) v)
  unfolding mask_of
  mask-bit marks block l v = by (eqb (v / 64) block) (is_marked marks l) refl
    where
      by : (s t : Bool) → eqb (v / 64) block ≡ s → bit_at (cond (s && t) (2 ^ (v % 64)) 0) b ≡ (t && eqb (64 * block + b) v)
      by true true e =
          let q = eqb-true (v / 64) block e in
          power-bit (v % 64) b
          ∙ same_answer (eqb (v % 64) b) (eqb (64 * block + b) v)
          (λ p. eq-eqb (64 * block + b) v (omega (arith, eqb-true (v % 64) b p, div-add-mod' v 64)))
          (λ p. eq-eqb (v % 64) b (omega (arith, eqb-true (64 * block + b) v p, div-add-mod' v 64)))
      by true false e = zero_bit b
      by false true e =
          zero_bit b
          ∙ sym (ne_eqb (64 * block + b) v λ p. eqb-false (v / 64) block e (omega (arith, div-add-mod' v 64, mod-lt v {m = 64} (omega arith))))
      by false false e = zero_bit b

  -- bit b of a block's masks is the cover of variable 64 * block + b
  module _ {A : List Label} {marks : List ℕ} (marked : Marked A marks) (block : ℕ) where
    chosen-bit : (l : Label) (v : Variable) → l.0 < most_rows → bit_at (mask_of marks block l.0 v.0) b ≡ (has A l && alike (𝓋 (64 * block + b)) v)
    chosen-bit l v g = rw (← marked.marks_are l.0 g) (mask-bit marks block l.0 v.0)

    pub at-masks : (f : Formula) → ((l : Label) → Memᴰ l (labels f) → l.0 < most_rows)
        → cover_at b (fold_of (masks_fold marks block) f) ≡ cover_of A (𝓋 (64 * block + b)) f
    at-masks f few =
        carried (masks_fold marks block) (cover_fold A (𝓋 (64 * block + b))) (cover_at b) at_unit at_join f
        (leaves_map (λ l g. at_leaf _ (zero_bit b)) (λ l g. at_leaf _ (zero_bit b))
        (λ l v g. at_leaf _ (chosen-bit l v g)) f (leaves-labelled (λ l. l.0 < most_rows) f few))

-- the lowest of the variables below n that pass a test, beside the list of them
module _ (p : Variable → Bool) where
  abbrev passes : ℕ → Bool
  passes k = p (𝓋 k)

  data Lowest (n : ℕ) : List Variable → Type 0 where
    none : first passes n ≡ n → Lowest n []
    some : {k : ℕ} {others : List Variable} → first passes n ≡ k → k < n → Lowest n (𝓋 k ∷ others)

  lowest-more : {n : ℕ} {vs : List Variable} → Lowest n vs → Lowest (suc n) (vs ++ those p (𝓋 n ∷ []))
  lowest-more {n} (none e) = by (p (𝓋 n)) refl
    where
      by : (t : Bool) → p (𝓋 n) ≡ t → Lowest (suc n) (cond t (𝓋 n ∷ []) [])
      by true q = some (first_found passes (suc n) n (first-all passes n e) (omega arith) q) (omega arith)
      by false q = none (first-none passes (suc n) (rw (add-one n) at (below_more _ n (first-all passes n e) q)))
  lowest-more {n} (some e h) =
      some (first_found passes (suc n) _ (λ j l. first_below passes n j (omega arith)) (omega arith) (rw e at (first-at passes n (omega arith)))) (omega arith)

  lowest-those : (n : ℕ) → Lowest n (those p (variables n))
  unfolding first
  lowest-those zero = none refl
  lowest-those (suc n) = rw (those-append p (variables n) (𝓋 n ∷ [])) (lowest-more (lowest-those n))

  -- a test of numbers that is true exactly of those in the list has the same lowest
  lowest-alike : (bad : ℕ → Bool) (n : ℕ) → ((v : ℕ) → v < n → (bad v ≡ true) ↔ Memᴰ (𝓋 v) (those p (variables n)))
      → first bad n ≡ first passes n
  lowest-alike bad n exactly =
      first-same bad passes n λ v h.
      same_answer (bad v) (passes v) (λ e. (of-those p (variables n) ((exactly v h).0 e)).1) (λ e. (exactly v h).1 (to-those p (to-variables n (𝓋 v) h) e))

lowest-of-two : {p q : Variable → Bool} {n : ℕ} {xs ys : List Variable} → Lowest p n xs → Lowest q n ys
    → lowest_of n (first (passes p) n) (first (passes q) n) ≡ covering_by xs ys
lowest-of-two {n = n} (none d) (none e) = rw (d, e, le-ltb n n (le_refl n))
lowest-of-two {n = n} (none d) (some {k = k} e h) = rw (d, e, le-ltb n n (le_refl n), lt-ltb k n h)
lowest-of-two {n = n} (some {k = k} d g) s = rw (d, lt-ltb k n g)

-- what a covering tells of the two lists, and what is judged by them
by-missed : (xs ys : List Variable) (v : Variable) → (covering_by xs ys ≡ Err (Missed v)) ↔ ((others : List Variable) × (xs ≡ v ∷ others))
by-missed [] [] v = (λ e. ([], cc), λ (others, e). cc)
by-missed [] (y ∷ ys) v = (λ e. ([], cc), λ (others, e). cc)
by-missed (x ∷ xs) ys v = (λ e. (xs, cc), λ (others, e). cc)

by-doubled : (xs ys : List Variable) (v : Variable) → (covering_by xs ys ≡ Err (Doubled v)) ↔ ((xs ≡ []) × (others : List Variable) × (ys ≡ v ∷ others))
by-doubled [] [] v = (λ e. (refl, [], cc), λ (d, others, e). cc)
by-doubled [] (y ∷ ys) v = (λ e. (refl, ys, cc), λ (d, others, e). cc)
by-doubled (x ∷ xs) ys v = (λ e. (cc, [], cc), λ (d, others, e). cc)

by-covered : (xs ys : List Variable) → (covering_by xs ys ≡ Ok tt) ↔ ((xs ≡ []) × (ys ≡ []))
by-covered [] [] = (λ e. (refl, refl), λ e. refl)
by-covered [] (y ∷ ys) = (λ e. (refl, cc), λ (d, e). cc)
by-covered (x ∷ xs) ys = (λ e. (cc, cc), λ (d, e). cc)

refuse-by : (xs ys : List Variable) (next : Judgement)
    → refuse VariableMissed (map (λ v. v.0) xs) (refuse VariableTwice (map (λ v. v.0) ys) next) ≡ judgement_of (covering_by xs ys) next
refuse-by [] [] next = refl
refuse-by [] (y ∷ ys) next = refl
refuse-by (x ∷ xs) ys next = refl

-- Rows that write a formula whose labels have marks, and the marks of A: bit b of a block's masks is the cover of its variable.
pub masks-say : (rows reads : List ℕ) (left i : ℕ) {f : Formula} → f ≡ formula_at rows reads left i → {A : List Label} {marks : List ℕ}
    → Marked A marks → ((l : Label) → Memᴰ l (labels f) → l.0 < most_rows) → (block b : ℕ) → b < 64
    → cover_at b (masks_at rows marks block left i) ≡ cover_of A (𝓋 (64 * block + b)) f
masks-say rows reads left i {f} written {A} {marks} marked few block b h =
    ap (cover_at b) (sym (value_read (masks_fold marks block) rows reads left i) ∙ ap (fold_of (masks_fold marks block)) (sym written))
    ∙ at-masks b h marked block f few

module _ (rows reads : List ℕ) {f : Formula} (written : f ≡ formula_at rows reads 64 0) {A : List Label} {marks : List ℕ} (marked : Marked A marks)
    (few : (l : Label) → Memᴰ l (labels f) → l.0 < most_rows) where
  cover-of : (v : ℕ) → cover_at (v % 64) (masks_at rows marks (v / 64) 64 0) ≡ cover_of A (𝓋 v) f
  cover-of v =
      let e : 64 * (v / 64) + v % 64 ≡ v = omega (arith, div-add-mod' v 64) in
      masks-say rows reads 64 0 written marked few (v / 64) (v % 64) (mod-lt v (omega arith)) ∙ rw e

  missed-is : (v : ℕ) → is_missed rows marks v ≡ not (cover_of A (𝓋 v) f).always
  unfolding is_missed
  missed-is v = ap (λ c. not c.always) (cover-of v)

  doubled-is : (v : ℕ) → is_doubled rows marks v ≡ (cover_of A (𝓋 v) f).twice
  unfolding is_doubled
  doubled-is v = ap (λ c. c.twice) (cover-of v)

  module _ {#V : ℕ} (w : WellFormed #V f) where
    -- a variable is missed, or doubled, exactly if it is in the paper's list
    pub missed-exactly : (v : ℕ) → v < #V → (is_missed rows marks v ≡ true) ↔ Memᴰ (𝓋 v) (missed #V f A)
    missed-exactly v h =
        let says = (counts-say #V f A w (𝓋 v) h).missed in
        (λ e. says.1 (not-true _ (sym (missed-is v) ∙ e)), λ t. missed-is v ∙ ap not (says.0 t))

    pub doubled-exactly : (v : ℕ) → v < #V → (is_doubled rows marks v ≡ true) ↔ Memᴰ (𝓋 v) (doubled #V f A)
    doubled-exactly v h =
        let says = (counts-say #V f A w (𝓋 v) h).doubled in
        (λ e. says.1 (sym (doubled-is v) ∙ e), λ t. doubled-is v ∙ says.0 t)

    -- the covering is that of the two lists
    pub covering-is : covering_of rows marks #V ≡ covering_by (missed #V f A) (doubled #V f A)
    unfolding covering_of
    covering-is =
        rw (lowest-alike _ (is_missed rows marks) #V missed-exactly, lowest-alike _ (is_doubled rows marks) #V doubled-exactly)
        (lowest-of-two (lowest-those _ #V) (lowest-those _ #V))

    -- it is a missed variable exactly if that is the first missed, a doubled one exactly if none is missed and that is the first
    -- doubled, and covered exactly if there is neither
    pub gives-missed : (v : Variable) → (covering_of rows marks #V ≡ Err (Missed v)) ↔ ((others : List Variable) × (missed #V f A ≡ v ∷ others))
    gives-missed v = rw covering-is (by-missed (missed #V f A) (doubled #V f A) v)

    pub gives-doubled : (v : Variable)
        → (covering_of rows marks #V ≡ Err (Doubled v)) ↔ ((missed #V f A ≡ []) × (others : List Variable) × (doubled #V f A ≡ v ∷ others))
    gives-doubled v = rw covering-is (by-doubled (missed #V f A) (doubled #V f A) v)

    pub gives-covered : (covering_of rows marks #V ≡ Ok tt) ↔ ((missed #V f A ≡ []) × (doubled #V f A ≡ []))
    gives-covered = rw covering-is (by-covered (missed #V f A) (doubled #V f A))

    -- refusals 11 and 12 of the judgement are those of the covering
    pub covering-says : (next : Judgement)
        → refuse VariableMissed (map (λ v. v.0) (missed #V f A)) (refuse VariableTwice (map (λ v. v.0) (doubled #V f A)) next)
        ≡ judgement_of (covering_of rows marks #V) next
    covering-says next = rw covering-is (refuse-by (missed #V f A) (doubled #V f A) next)
