-- The reported order and the cycles of a relation between labels are those of the same relation between the labels' indices,
-- counted from 0 in ascending order: what is done with the indices is done with the labels.
use Prim.Native.Nat.{ℕ, zero, suc, ◌<◌, ◌≤◌}
use native.Mathlib.Omega.{arith}
use mathlib.Core.Path.{◌≡◌, refl, sym, ap, ◌∙◌}
use mathlib.Core.Bool.{Bool, true, false, not}
use mathlib.Core.List.{List, [], ◌∷◌, map, map-append, Memᴰ}
use lib.ListN.{length, get_or, take, length-map}
use lib.Seq.{take-suc, take-length}
use lib.Dec.{eqb}
use borrow.Author.Tests.{eqb-true, eqb-false, eq-eqb, ne_eqb}
use Rattle.paper.specs.declared.Label.{Label}
use Rattle.paper.specs.Lists.{those}
use Rattle.paper.specs.Formula.{ℓ, same}
use Rattle.paper.specs.Order.{is_ready, greedy_by, leads, on_cycle, order}
use Rattle.paper.proofs.Bools.{pick}
use Rattle.paper.proofs.Lists.{any_same, of-those, those-same}
use Rattle.rows.proofs.Meets.{lt-or-le}
use Rattle.paper.specs.Lists.{up_to}
use Rattle.paper.proofs.UpTo.{length-up_to, of-up_to, any-map, those-map}

-- Each x stands for h x: on those that are in, R between the ones is Q between the others, and so they are told apart.
module _ {X Y : Type 0} (h : X → Y) (R like_y : Y → Y → Bool) (Q like_x : X → X → Bool) (In : X → Type 0)
    (related : (i j : X) → In i → In j → R (h i) (h j) ≡ Q i j) (told-apart : (i j : X) → In i → In j → like_y (h i) (h j) ≡ like_x i j) where
  abbrev All : List X → Type 0
  All xs = (i : X) → Memᴰ i xs → In i

  ready-same : (left : List X) → All left → (j : X) → In j → is_ready R (map h left) (h j) ≡ is_ready Q left j
  ready-same left all j k = ap not (any-map h (λ i. R i (h j)) left ∙ any_same _ _ left (λ i t. related i j (all i t) k))

  greedy-same : (n : ℕ) (left : List X) → All left → greedy_by R like_y n (map h left) ≡ map h (greedy_by Q like_x n left)
  greedy-same zero left all = refl
  greedy-same (suc n) left all = ap next ready ∙ go (those (is_ready Q left) left) refl (greedy-same n)
    where
      next : List Y → List Y
      next rs = elim rs [ [] ↦ [] | j ∷ js ↦ j ∷ greedy_by R like_y n (those (λ i. not (like_y i j)) (map h left)) ]

      ready : those (is_ready R (map h left)) (map h left) ≡ map h (those (is_ready Q left) left)
      ready = those-map h _ left ∙ ap (map h) (those-same _ _ left (λ j t. ready-same left all j (all j t)))

      others : (j : X) → In j → those (λ i. not (like_y i (h j))) (map h left) ≡ map h (those (λ i. not (like_x i j)) left)
      others j k = those-map h _ left ∙ ap (map h) (those-same _ _ left (λ i t. ap not (told-apart i j (all i t) k)))

      go : (rs : List X) → those (is_ready Q left) left ≡ rs
          → ((left : List X) → All left → greedy_by R like_y n (map h left) ≡ map h (greedy_by Q like_x n left))
          → next (map h rs) ≡ map h (elim rs [ [] ↦ [] | j ∷ js ↦ j ∷ greedy_by Q like_x n (those (λ i. not (like_x i j)) left) ])
      go [] e more = refl
      go (j ∷ js) e more =
          let t : Memᴰ j (those (is_ready Q left) left) = rw e (mathlib.Core.List.Memᴰ.head refl) in
          let k = all j (of-those (is_ready Q left) left t).0 in
          ap (λ ys. h j ∷ ys) (ap (greedy_by R like_y n) (others j k) ∙ more (those (λ i. not (like_x i j)) left) (λ i s. all i (of-those _ left s).0))

  leads-same : (ks : List X) → All ks → (i j : X) → In i → In j → leads R (map h ks) (h i) (h j) ≡ leads Q ks i j
  leads-same [] all i j a b = related i j a b
  leads-same (k ∷ ks) all i j a b =
      let c = all k (mathlib.Core.List.Memᴰ.head refl) in
      let rest : All ks = λ x t. all x (mathlib.Core.List.Memᴰ.tail t) in
      cc (leads-same ks rest i j a b, leads-same ks rest i k a c, leads-same ks rest k j c b)

-- the entries of a list, by their indices
pub entries-indexed : (xs : List ℕ) → map (λ k. ℓ (get_or xs k 0)) (up_to (length xs)) ≡ map ℓ xs
entries-indexed xs = first (length xs) (omega arith) ∙ ap (map ℓ) (take-length xs)
  where
    first : (n : ℕ) → n ≤ length xs → map (λ k. ℓ (get_or xs k 0)) (up_to n) ≡ map ℓ (take n xs)
    first zero h = refl
    first (suc n) h =
        map-append (λ k. ℓ (get_or xs k 0)) (up_to n) (n ∷ [])
        ∙ rw (first n (omega arith), take-suc xs n 0 (omega arith)) (sym (map-append ℓ (take n xs) (get_or xs n 0 ∷ [])))

-- the indices below n stand for labels, in ascending order
module _ (R : Label → Label → Bool) (Q : ℕ → ℕ → Bool) (g : ℕ → ℕ) (n : ℕ)
    (related : (i j : ℕ) → i < n → j < n → R (ℓ (g i)) (ℓ (g j)) ≡ Q i j) (ascend : (j k : ℕ) → j < k → k < n → g j < g k) where
  abbrev indexed : List Label
  indexed = map (λ k. ℓ (g k)) (up_to n)

  same_index : (i j : ℕ) → i < n → j < n → same (ℓ (g i)) (ℓ (g j)) ≡ eqb i j
  same_index i j a b = go (eqb i j) refl
    where
      go : (t : Bool) → eqb i j ≡ t → eqb (g i) (g j) ≡ t
      go true e = eq-eqb _ _ (ap g (eqb-true i j e))
      go false e = ne_eqb (g i) (g j) λ q.
          pick (lt-or-le i j) (λ h. omega (arith, ascend i j h b)) (λ h. omega (arith, ascend j i (omega (arith, eqb-false i j e)) a))

  pub order-is-indexed : order R indexed ≡ map (λ k. ℓ (g k)) (greedy_by Q eqb n (up_to n))
  order-is-indexed =
      ap (λ m. greedy_by R same m indexed) (length-map (up_to n) (λ k. ℓ (g k)) ∙ length-up_to n)
      ∙ greedy-same (λ k. ℓ (g k)) R same Q eqb (λ k. k < n) related same_index n (up_to n) (of-up_to n)

  pub cycle-is-indexed : (i : ℕ) → i < n → on_cycle R indexed (ℓ (g i)) ≡ on_cycle Q (up_to n) i
  cycle-is-indexed i h = leads-same (λ k. ℓ (g k)) R same Q eqb (λ k. k < n) related same_index (up_to n) (of-up_to n) i i h h
