-- "Before" in terms of rows (specs/Inside/Prior.antt, `prior`) is the paper's "before" on the formula that the rows write. Of two
-- chosen candidates both are in the strategy, they share a branch as their rows say, and the first one's variable is that of
-- its row, frozen at the second as its rows say.
use Prim.Native.Nat.{ℕ, zero, suc, ◌<◌}
use native.Mathlib.Omega.{arith}
use mathlib.Core.Path.{◌≡◌, refl, sym, ap, ◌∙◌}
use mathlib.Core.Bool.{Bool, true, ◌&&◌, and_comm}
use mathlib.Core.List.Memᴰ
use mathlib.Core.List.{List, [], ◌∷◌, map, Memᴰ}
use lib.ListN.{length, get_or}
use lib.Dec.{eqb}
use Rattle.paper.specs.Formula.{ℓ, 𝓋, same, has, Candidate, candidates, Formula}
use Rattle.paper.specs.Frozen.{frozen}
use Rattle.paper.specs.Before.{depends, before}
use Rattle.paper.specs.Order.{greedy_by, on_cycle, order}
use Rattle.paper.proofs.Bools.{both, and_left, and_right, same_answer}
use Rattle.paper.proofs.Lists.{to-any, of-any}
use Rattle.paper.proofs.Labels.{same_refl, same-eq, mem-has, known-candidate}
use Rattle.rows.specs.Rows.{kind_of, arg_of}
use Rattle.written.specs.Written.{size}
use Rattle.written.proofs.Writes.{Writes}
use Rattle.paper.specs.Lists.{up_to}
use Rattle.net.specs.Inside.Prior.{prior}
use Rattle.net.proofs.Spans.{rises, Among, candidate_at, candidate-listed}
use Rattle.net.proofs.Sharing.{sharing-is-together}
use Rattle.net.proofs.Freezing.{frozen-as-rows-say}
use Rattle.net.proofs.Indexed.{entries-indexed, order-is-indexed, cycle-is-indexed}

-- an entry of a list is a member
entry_of : (xs : List ℕ) (k : ℕ) → k < length xs → Memᴰ (get_or xs k 0) xs
entry_of [] k h = absurd (omega arith)
entry_of (x ∷ xs) zero h = Memᴰ.head refl
entry_of (x ∷ xs) (suc k) h = Memᴰ.tail (entry_of xs k (omega arith))

module _ (rows reads : List ℕ) (f : Formula) (writes : Writes rows reads f 0 0) where
  -- a candidate's variable is that of its row
  depends-on-row : (i j : ℕ) → Among rows i 0 (size f) → depends f (ℓ i) (ℓ j) ≡ frozen f (ℓ j) (𝓋 (arg_of rows i))
  depends-on-row i j c =
      same_answer _ _
      (λ h. let (d, t, k) = of-any tests (candidates f) h in
      let e = same-eq (ℓ i) d.label (and_left (same (ℓ i) d.label) _ k) in
      ap (λ (c : Candidate). frozen f (ℓ j) c.variable) (known-candidate f (rises rows reads f 0 0 writes) (candidate_at rows i) d own t e)
      ∙ and_right (same (ℓ i) d.label) _ k)
      (λ h. to-any tests own (both (same (ℓ i) (ℓ i)) _ (same_refl (ℓ i)) h))
    where
      tests : Candidate → Bool
      tests d = same (ℓ i) d.label && frozen f (ℓ j) d.variable

      own : Memᴰ (candidate_at rows i) (candidates f)
      own = candidate-listed rows reads i f 0 0 writes c

  module _ (chosen : List ℕ) (#N : ℕ) (all : size f ≡ #N)
      (below : (k : ℕ) → k < length chosen → get_or chosen k 0 < #N)
      (kinds : (k : ℕ) → k < length chosen → kind_of rows (get_or chosen k 0) ≡ 2) where
    pub prior-is-before : (i j : ℕ) → i < length chosen → j < length chosen
        → before f (map ℓ chosen) (ℓ (get_or chosen i 0)) (ℓ (get_or chosen j 0)) ≡ prior rows reads chosen i j
    unfolding prior
    prior-is-before i j h k =
        let a = get_or chosen i 0 in
        let b = get_or chosen j 0 in
        both-chosen (chosen-has i h) (chosen-has j k) (sharing-is-together rows reads f 0 0 writes a b (row_of i h) (row_of j k))
        (depends-on-row a b (row_of i h) ∙ frozen-as-rows-say rows reads f writes b (arg_of rows a) (row_of j k))
      where
        both-chosen : {p q s d t z : Bool} → p ≡ true → q ≡ true → s ≡ t → d ≡ z → (p && (q && (s && d))) ≡ (z && t)
        both-chosen {t = t} {z = z} a b c e = rw (a, b, c, e) (and_comm t z)

        chosen-has : (k : ℕ) → k < length chosen → has (map ℓ chosen) (ℓ (get_or chosen k 0)) ≡ true
        chosen-has k h = mem-has (Memᴰ.map ℓ (entry_of chosen k h))

        row_of : (k : ℕ) → k < length chosen → Among rows (get_or chosen k 0) 0 (size f)
        row_of k h = let b = below k h in record { from = omega arith; below = omega arith; kind = kinds k h }

    -- so the reported order and the cycles go by the indices of the chosen labels, which ascend
    module _ (ascend : (j k : ℕ) → j < k → k < length chosen → get_or chosen j 0 < get_or chosen k 0) where
      pub order-by-rows : order (before f (map ℓ chosen)) (map ℓ chosen)
          ≡ map (λ k. ℓ (get_or chosen k 0)) (greedy_by (prior rows reads chosen) eqb (length chosen) (up_to (length chosen)))
      order-by-rows =
          ap (order (before f (map ℓ chosen))) (sym (entries-indexed chosen))
          ∙ order-is-indexed (before f (map ℓ chosen)) (prior rows reads chosen) (λ k. get_or chosen k 0) (length chosen) prior-is-before ascend

      pub cycle-by-rows : (i : ℕ) → i < length chosen
          → on_cycle (before f (map ℓ chosen)) (map ℓ chosen) (ℓ (get_or chosen i 0)) ≡ on_cycle (prior rows reads chosen) (up_to (length chosen)) i
      cycle-by-rows i h =
          ap (λ A. on_cycle (before f (map ℓ chosen)) A (ℓ (get_or chosen i 0))) (sym (entries-indexed chosen))
          ∙ cycle-is-indexed (before f (map ℓ chosen)) (prior rows reads chosen) (λ k. get_or chosen k 0) (length chosen) prior-is-before ascend i h
