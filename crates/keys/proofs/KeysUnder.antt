-- What a walk down to one key goes by: how the number of keys at a row is made of the numbers of the expressions right under it,
-- where it is within the limit. A factor or a summand is at most the whole, so no number under the row is held back either.
use Prim.Native.Nat.{ℕ, zero, suc, ◌+◌, ◌-◌, ◌*◌, ◌<◌, ◌≤◌}
use native.Mathlib.Omega.{arith}
use native.Mathlib.Numerals.{sub-one}
use native.Mathlib.Nat.{mul-one, one-mul, mul_assoc, zero-mul, mul-zero, mul-le-mul_left, mul-le-mul_right}
use mathlib.Core.Path.{◌≡◌, refl, sym, ap, ap₂, subst, ◌∙◌}
use mathlib.Core.Bool.{Bool, true, false, cond, ◌&&◌, ◌||◌}
use mathlib.Core.List.{List, [], ◌∷◌}
use lib.Dec.{eqb}
use borrow.Author.Tests.{eq-eqb, ne_eqb}
use Rattle.paper.specs.Limits.{most_transitions}
use Rattle.paper.specs.Inside.Structure.KeyCount.{KeyCount, number, unit_keys as unit_count, join_keys as join_counts}
use Rattle.paper.proofs.KeyCounts.{number-of-both, number-of-either, join_keys-unit}
use Rattle.rows.specs.Rows.{kind_of, end_of, form_of}
use Rattle.rows.specs.Inside.Walk.{expressions_at, first_at, Walkable, joined_from}
use Rattle.rows.proofs.Walks.{value-join}
use Rattle.keys.specs.Inside.Keys.{total, keys_at}
use Rattle.keys.proofs.KeyNumbers.{held-within, held-exact, count_fold, count_at, keys-held}

abbrev pub product_of : List ℕ → ℕ
product_of [] = 1
product_of (n ∷ ns) = n * product_of ns

abbrev pub sum_of : List ℕ → ℕ
sum_of [] = 0
sum_of (n ∷ ns) = n + sum_of ns

-- each is at most b
abbrev pub AllWithin : ℕ → List ℕ → Type 0
AllWithin b [] = Unit {0}
AllWithin b (n ∷ ns) = (n ≤ b) × AllWithin b ns

pub within_more : {b c : ℕ} (ns : List ℕ) → b ≤ c → AllWithin b ns → AllWithin c ns
within_more [] h a = tt
within_more (n ∷ ns) h a = (omega (arith, a.0), within_more ns h a.1)

-- a factor of a product that is something is at most the product
pub factors-some : (a b : ℕ) → 0 < a * b → (0 < a) × (0 < b)
factors-some zero b h = absurd (omega (arith, zero-mul b))
factors-some (suc a) zero h = absurd (omega (arith, mul-zero (suc a)))
factors-some (suc a) (suc b) h = (omega arith, omega arith)

pub factors-within : (ns : List ℕ) → 0 < product_of ns → AllWithin (product_of ns) ns
factors-within [] h = tt
factors-within (n ∷ ns) h =
    let (some, others) = factors-some n (product_of ns) h in
    let first = mul-le-mul_left n others in
    let second = mul-le-mul_right (product_of ns) some in
    (omega arith, within_more ns (omega arith) (factors-within ns others))

-- the numbers of m expressions from row i on, each at the end of the one before
module _ (g : ℕ → ℕ) (rows : List ℕ) where
  unfoldable pub numbers_from : ℕ → ℕ → List ℕ
  numbers_from zero i = []
  numbers_from (suc m) i = g i ∷ numbers_from m (end_of rows i)

  pub numbers-step : (m i : ℕ) → 0 < m → numbers_from m i ≡ g i ∷ numbers_from (m - 1) (end_of rows i)
  unfolding numbers_from
  numbers-step zero i some = absurd (omega arith)
  numbers-step (suc m) i some = rw (sub-one (suc m))

-- the number of keys at each of m expressions from row i on
abbrev pub totals_from : List ℕ → List ℕ → ℕ → ℕ → ℕ → List ℕ
totals_from rows marks left m i = numbers_from (λ j. total (keys_at rows marks left j)) rows m i

-- joined counts
joined-has-both : (a b : KeyCount) → (number a ≤ number (join_counts false a b)) × (number b ≤ number (join_counts false a b))
joined-has-both a b = go a.empty b.empty
  where
    go : (d e : Bool) → (a.more + cond d 1 0 ≤ a.more + b.more + cond (d || e) 1 0) × (b.more + cond e 1 0 ≤ a.more + b.more + cond (d || e) 1 0)
    go true true = (omega arith, omega arith)
    go true false = (omega arith, omega arith)
    go false true = (omega arith, omega arith)
    go false false = (omega arith, omega arith)

or-none : (a b : Bool) → (a || b) ≡ false → a ≡ false
or-none true b e = e
or-none false b e = refl

module _ (rows marks : List ℕ) (left : ℕ) where
  abbrev joined_count : Bool → KeyCount → ℕ → ℕ → KeyCount
  joined_count c a m i = joined_from (count_fold marks) rows left c a m i

  abbrev counts_from : ℕ → ℕ → List ℕ
  counts_from m i = numbers_from (λ j. number (count_at rows marks left j)) rows m i

  joined-product : (a : KeyCount) (m i : ℕ) → number (joined_count true a m i) ≡ number a * product_of (counts_from m i)
  unfolding joined_from numbers_from
  joined-product a zero i = sym (mul-one (number a))
  joined-product a (suc m) i =
      let b = count_at rows marks left i in
      joined-product (join_counts true a b) m (end_of rows i)
      ∙ ap (λ n. n * product_of (counts_from m (end_of rows i))) (number-of-both a b)
      ∙ mul_assoc (number a) (number b) (product_of (counts_from m (end_of rows i)))

  joined-empty : (a : KeyCount) (m i : ℕ) → (joined_count false a m i).empty ≡ false → a.empty ≡ false
  unfolding joined_from
  joined-empty a zero i e = e
  joined-empty a (suc m) i e = or-none _ _ (joined-empty (join_counts false a (count_at rows marks left i)) m (end_of rows i) e)

  joined-sum : (a : KeyCount) (m i : ℕ) → (joined_count false a m i).empty ≡ false → number (joined_count false a m i) ≡ number a + sum_of (counts_from m i)
  unfolding joined_from numbers_from
  joined-sum a zero i e = omega arith
  joined-sum a (suc m) i e =
      let b = count_at rows marks left i in
      let none : a.empty ≡ false = or-none _ _ (joined-empty (join_counts false a b) m (end_of rows i) e) in
      let both : ◌≡◌ {A = ℕ} (cond (a.empty && b.empty) 1 0) 0 = rw none in
      omega (arith, joined-sum (join_counts false a b) m (end_of rows i) e, number-of-either a b)

  joined-has-first : (a : KeyCount) (m i : ℕ) → number a ≤ number (joined_count false a m i)
  unfolding joined_from
  joined-has-first a zero i = omega arith
  joined-has-first a (suc m) i =
      let b = count_at rows marks left i in
      omega (arith, (joined-has-both a b).0, joined-has-first (join_counts false a b) m (end_of rows i))

  joined-has-each : (a : KeyCount) (m i : ℕ) → AllWithin (number (joined_count false a m i)) (counts_from m i)
  unfolding joined_from numbers_from
  joined-has-each a zero i = tt
  joined-has-each a (suc m) i =
      let b = count_at rows marks left i in (
        omega (arith, (joined-has-both a b).1, joined-has-first (join_counts false a b) m (end_of rows i)),
        joined-has-each (join_counts false a b) m (end_of rows i),
      )

  joined-one : (m i : ℕ) → m ≡ 1 → number (joined_count false (unit_count false) m i) ≡ product_of (counts_from m i)
  unfolding joined_from numbers_from
  joined-one m i e = rw e (ap number (join_keys-unit false (count_at rows marks left i)) ∙ sym (mul-one (number (count_at rows marks left i))))

  -- numbers within the limit are counted as they are
  totals-are-counts : (m i : ℕ) → AllWithin most_transitions (counts_from m i) → totals_from rows marks left m i ≡ counts_from m i
  unfolding numbers_from
  totals-are-counts zero i a = refl
  totals-are-counts (suc m) i a =
      ap₂ ◌∷◌ (ap total (keys-held rows marks left i) ∙ held-within (count_at rows marks left i) a.0) (totals-are-counts m (end_of rows i) a.1)

-- the expressions under row i, the number of whose keys is within the limit
module _ {rows : List ℕ} {#N i : ℕ} (marks : List ℕ) (left : ℕ) (w : Walkable rows #N i) (deep : left ≡ 0 → ⊥) (join : 2 < kind_of rows i)
    (few : total (keys_at rows marks left i) ≤ most_transitions) where
  abbrev totals_under : List ℕ
  totals_under = totals_from rows marks (left - 1) (expressions_at rows i) (first_at rows i)

  abbrev counts_under : List ℕ
  counts_under = counts_from rows marks (left - 1) (expressions_at rows i) (first_at rows i)

  number-here : number (count_at rows marks left i) ≡ total (keys_at rows marks left i)
  number-here =
      let e = keys-held rows marks left i in sym (ap total e ∙ held-exact (count_at rows marks left i) (subst (λ k. total k ≤ most_transitions) e few))

  joined-here : (c : Bool) → eqb (kind_of rows i) 3 ≡ c
      → count_at rows marks left i ≡ joined_count rows marks (left - 1) c (unit_count c) (expressions_at rows i) (first_at rows i)
  joined-here c e = rw (← e) (value-join (count_fold marks) rows left i deep (w.shaped.joined i w.here join))

  -- A conjunction: its keys are one of each, and so each number is within the limit.
  module _ (kind : kind_of rows i ≡ 3) (some : 0 < total (keys_at rows marks left i)) where
    counts-multiply : total (keys_at rows marks left i) ≡ product_of counts_under
    counts-multiply =
        sym number-here ∙ ap number (joined-here true (eq-eqb (kind_of rows i) 3 kind))
        ∙ joined-product rows marks (left - 1) (unit_count true) (expressions_at rows i) (first_at rows i) ∙ one-mul (product_of counts_under)

    multiplied-counts : totals_under ≡ counts_under
    multiplied-counts = totals-are-counts rows marks (left - 1) (expressions_at rows i) (first_at rows i)
        (within_more counts_under (omega (arith, counts-multiply)) (factors-within counts_under (omega (arith, counts-multiply))))

    pub keys-multiply : total (keys_at rows marks left i) ≡ product_of totals_under
    keys-multiply = counts-multiply ∙ ap product_of (sym multiplied-counts)

  -- Any other join: each number is within the limit, and where the empty key is not among them they add up.
  module _ (kind : kind_of rows i ≡ 3 → ⊥) where
    counts-within : AllWithin most_transitions counts_under
    counts-within =
        within_more counts_under (omega (arith, number-here, ap number (joined-here false (ne_eqb (kind_of rows i) 3 kind))))
        (joined-has-each rows marks (left - 1) (unit_count false) (expressions_at rows i) (first_at rows i))

    other-counts : totals_under ≡ counts_under
    other-counts = totals-are-counts rows marks (left - 1) (expressions_at rows i) (first_at rows i) counts-within

    pub keys-within : AllWithin most_transitions totals_under
    keys-within = rw other-counts counts-within

    pub keys-add : (keys_at rows marks left i).empty ≡ false → total (keys_at rows marks left i) ≡ sum_of totals_under
    keys-add none =
        let e = joined-here false (ne_eqb (kind_of rows i) 3 kind) in
        let none' = sym (ap (λ k. k.empty) e) ∙ sym (ap (λ k. k.empty) (keys-held rows marks left i)) ∙ none in
        sym number-here ∙ ap number e ∙ joined-sum rows marks (left - 1) (unit_count false) (expressions_at rows i) (first_at rows i) none'
        ∙ omega (arith, ap sum_of other-counts)

  -- An exists has its expression's keys.
  one-under : kind_of rows i ≡ 5 → expressions_at rows i ≡ 1
  unfolding form_of
  one-under kind = rw kind

  pub keys-pass : kind_of rows i ≡ 5 → total (keys_at rows marks left i) ≡ product_of totals_under
  keys-pass kind =
      let apart : kind_of rows i ≡ 3 → ⊥ = λ e. omega (arith, kind, e) in
      sym number-here ∙ ap number (joined-here false (ne_eqb (kind_of rows i) 3 apart))
      ∙ joined-one rows marks (left - 1) (expressions_at rows i) (first_at rows i) (one-under kind) ∙ ap product_of (sym (other-counts apart))
