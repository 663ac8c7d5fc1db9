-- The keys that a walk counts are those that the paper counts over the structure, held at the limit: the map that holds a
-- count keeps leaves, units and joins, for a product with a factor at the limit is at the limit or nothing. So the walk passes
-- the limit exactly where the paper's number does, and below it the two are equal.
use Prim.Native.Nat.{ℕ, ◌+◌, ◌*◌, ◌<◌, ◌≤◌, min}
use native.Mathlib.Omega.{arith}
use native.Mathlib.Nat.{min-eq_left, min-eq_right, mul-le-mul, zero-mul, mul-zero}
use mathlib.Core.Path.{◌≡◌, refl, sym, ap, subst, ◌∙◌}
use mathlib.Core.Logic.{◌⊎◌, inl, inr}
use mathlib.Core.Bool.{Bool, true, false, cond, ◌&&◌, ◌||◌}
use mathlib.Core.List.{List}
use lib.Dec.{ltb}
use borrow.Author.Tests.{lt-ltb}
use Rattle.paper.specs.Limits.{most_transitions}
use Rattle.paper.specs.declared.Label.{Label}
use Rattle.paper.specs.Formula.{ℓ, has}
use Rattle.paper.specs.Inside.Structure.Fold.{Fold}
use Rattle.paper.specs.Inside.Structure.KeyCount.{KeyCount, number, leaf_keys as leaf_count, unit_keys as unit_count}
use Rattle.paper.specs.Inside.Structure.KeyCount.{join_keys as join_counts, key_fold, key_count_of, number_of}
use Rattle.paper.proofs.Folds.{carried, carried-everywhere}
use Rattle.paper.proofs.Bools.{pick}
use Rattle.rows.specs.Formula.{formula_at}
use Rattle.rows.specs.Inside.Walk.{Walkable, skeleton_at, value_at}
use Rattle.rows.proofs.Meets.{lt-or-le}
use Rattle.rows.proofs.Walks.{value_read}
use Rattle.keys.specs.declared.Distinct.{Distinct}
use Rattle.marks.specs.Marks.{is_marked}
use Rattle.marks.specs.Inside.Chosen.{Marked}
use Rattle.keys.specs.Inside.Keys.{limit, keys_of, total, leaf_keys, join_keys, keys_fold, keys_at}
use Rattle.keys.proofs.LeafLabels.{leaves-hold}

-- n held at the limit is h: n itself, or the limit where n is above it
abbrev Held : ℕ → ℕ → Type 0
Held n h = (h ≡ n) ⊎ ((h ≡ limit) × (limit < n))

held_at : (n : ℕ) → Held n (min limit n)
held_at n = pick (lt-or-le limit n) (λ above. inr (min-eq_left (omega arith), above)) (λ within. inl (min-eq_right within))

-- two numbers that are equal, or neither below the limit, are held alike
abbrev Alike : ℕ → ℕ → Type 0
Alike m n = (m ≡ n) ⊎ ((limit ≤ m) × (limit ≤ n))

held-alike : {m n : ℕ} → Alike m n → min limit m ≡ min limit n
held-alike e = pick e (ap (min limit)) (λ p. min-eq_left p.0 ∙ sym (min-eq_left p.1))

sums-alike : {a a' b b' : ℕ} → Held a a' → Held b b' → Alike (a + b) (a' + b')
sums-alike (inl d) (inl e) = inl (omega arith)
sums-alike (inl d) (inr e) = inr (omega arith, omega arith)
sums-alike (inr d) e = inr (omega arith, omega arith)

-- a product of which one factor is not below the limit, and the other is something
times-some : (a b : ℕ) → limit ≤ a → 0 < b → limit ≤ a * b
times-some a b h g = let some : 1 ≤ b = omega arith in let p = mul-le-mul h some in omega arith

some-times : (a b : ℕ) → 0 < a → limit ≤ b → limit ≤ a * b
some-times a b h g = let some : 1 ≤ a = omega arith in let p = mul-le-mul some g in omega arith

-- a product, and b once more if t; e is 1 or 0 for the empty key
abbrev product : ℕ → Bool → ℕ → ℕ → ℕ
product e t a b = a * (b + e) + cond t b 0

module _ (e : ℕ) where
  products-without-first : (t : Bool) (b : ℕ) → limit < b → Alike (product e t 0 b) (product e t 0 limit)
  products-without-first true b above = inr (omega arith, omega arith)
  products-without-first false b above = let p = zero-mul (b + e) in let q = zero-mul (limit + e) in inl (omega arith)

  products-without-second : (t : Bool) (a a' : ℕ) → e ≡ 0 → Alike (product e t a 0) (product e t a' 0)
  products-without-second t a a' none = let p = mul-zero a in let q = mul-zero a' in rw none (inl (omega arith))

  products-alike : (t : Bool) {a a' b b' : ℕ} → Held a a' → Held b b' → Alike (product e t a b) (product e t a' b')
  products-alike t (inl p) (inl q) = inl (rw (p, q))
  products-alike t {a} {a'} {b} {b'} (inl p) (inr q) = rw (p, q.0)
      (pick (lt-or-le 0 a)
      (λ some. inr (omega (arith, some-times a (b + e) some (omega arith)), omega (arith, some-times a (limit + e) some (omega arith))))
      (λ none. let z : a ≡ 0 = omega arith in rw z (products-without-first t b q.1)))
  products-alike t {a} {a'} {b} {b'} (inr p) q = pick (lt-or-le 0 (b + e))
      (λ some. let some' : 0 < b' + e = pick q (λ same. omega arith) (λ top. omega arith) in
      inr (omega (arith, times-some a (b + e) (omega arith) some), omega (arith, times-some a' (b' + e) (omega arith) some')))
      (λ none. let z : b ≡ 0 = omega arith in let z' : b' ≡ 0 = pick q (λ same. omega arith) (λ top. absurd (omega arith)) in
      rw (z, z') (products-without-second t a a' (omega arith)))

-- a count held at the limit
abbrev pub held : KeyCount → Distinct
held c = keys_of (min limit c.more) c.empty

held-joins : (c : Bool) (a b : KeyCount) → held (join_counts c a b) ≡ join_keys c (held a) (held b)
unfolding join_keys
held-joins true a b = ap (λ n. keys_of n (a.empty && b.empty))
    (held-alike (products-alike (cond b.empty 1 0) a.empty (held_at a.more) (held_at b.more)))
held-joins false a b = ap (λ n. keys_of n (a.empty || b.empty)) (held-alike (sums-alike (held_at a.more) (held_at b.more)))

held-units : (c : Bool) → held (unit_count c) ≡ keys_of 0 c
held-units c = refl

held-leaves : (chosen : Bool) → held (leaf_count chosen) ≡ leaf_keys chosen
held-leaves true = refl
held-leaves false = refl

-- a number within the limit is held as it is, and held above it where it is above
pub held-within : (c : KeyCount) → number c ≤ most_transitions → total (held c) ≡ number c
held-within c h = pick (held_at c.more) (λ same. omega arith) (λ top. absurd (omega arith))

pub held-exact : (c : KeyCount) → total (held c) ≤ most_transitions → total (held c) ≡ number c
held-exact c h = pick (held_at c.more) (λ same. omega arith) (λ top. absurd (omega arith))

held-past : (c : KeyCount) → ltb most_transitions (total (held c)) ≡ ltb most_transitions (number c)
held-past c =
    pick (held_at c.more) (λ same. ap (λ n. ltb most_transitions (n + cond c.empty 1 0)) same)
    (λ top. lt-ltb most_transitions (total (held c)) (omega arith) ∙ sym (lt-ltb most_transitions (number c) (omega arith)))

-- The count of keys that marks choose, without a limit.
abbrev pub count_fold : List ℕ → Fold KeyCount
count_fold marks = record {
  at_false = λ l. leaf_count (is_marked marks l.0);
  at_test = λ l. leaf_count (is_marked marks l.0);
  at_candidate = λ l v. leaf_count (is_marked marks l.0);
  unit = unit_count;
  join = join_counts;
}

abbrev pub count_at : List ℕ → List ℕ → ℕ → ℕ → KeyCount
count_at rows marks left i = value_at (count_fold marks) rows left i

module _ (rows marks : List ℕ) (left i : ℕ) where
  pub keys-held : keys_at rows marks left i ≡ held (count_at rows marks left i)
  unfolding value_at
  keys-held = sym (carried-everywhere (count_fold marks) (keys_fold marks) held held-units held-joins
      (λ l. held-leaves (is_marked marks l.0)) (λ l. held-leaves (is_marked marks l.0)) (λ l v. held-leaves (is_marked marks l.0))
      (skeleton_at rows left i))

  -- where the marks are those of the chosen labels, it is the paper's count
  module _ (A : List Label) (marked : Marked A marks) {#N : ℕ} (w : Walkable rows #N i) (reads : List ℕ) where
    count-chosen : count_at rows marks left i ≡ key_count_of A (formula_at rows reads left i)
    count-chosen = sym (value_read (count_fold marks) rows reads left i)
        ∙ carried (count_fold marks) (key_fold A) (λ c. c) (λ c. refl) (λ c a b. refl) (formula_at rows reads left i)
        (leaves-hold rows reads (λ l. leaf_count (is_marked marks l.0) ≡ leaf_count (has A l)) chosen left i w)
      where
        chosen : (l : ℕ) → l < #N → leaf_count (is_marked marks l) ≡ leaf_count (has A (ℓ l))
        chosen l h = let few = w.shaped.few in ap leaf_count (marked.marks_are l (omega arith))

    pub keys-are : keys_at rows marks left i ≡ held (key_count_of A (formula_at rows reads left i))
    keys-are = keys-held ∙ ap held count-chosen

    pub keys-past-limit : ltb most_transitions (total (keys_at rows marks left i)) ≡ ltb most_transitions (number_of A (formula_at rows reads left i))
    keys-past-limit = ap (λ k. ltb most_transitions (total k)) keys-are ∙ held-past (key_count_of A (formula_at rows reads left i))

    pub keys-number : total (keys_at rows marks left i) ≤ most_transitions → total (keys_at rows marks left i) ≡ number_of A (formula_at rows reads left i)
    keys-number h = ap total keys-are ∙ held-exact (key_count_of A (formula_at rows reads left i)) (subst (λ k. total k ≤ most_transitions) keys-are h)

    pub keys-number-within : number_of A (formula_at rows reads left i) ≤ most_transitions
        → total (keys_at rows marks left i) ≡ number_of A (formula_at rows reads left i)
    keys-number-within h = ap total keys-are ∙ held-within (key_count_of A (formula_at rows reads left i)) h

    pub keys-empty : (keys_at rows marks left i).empty ≡ (key_count_of A (formula_at rows reads left i)).empty
    keys-empty = ap (λ k. k.empty) keys-are
