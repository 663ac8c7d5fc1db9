-- Different numbers have different transitions: the chosen labels that the class of a key keeps are that key, so classes that keep
-- the same labels have one key; and as the keys strictly ascend, no key has two numbers. Bytes say for each label whether it is
-- kept, and a label that is kept is the formula's.
use Prim.Native.Nat.{ℕ, zero, suc, ◌<◌}
use native.Mathlib.Omega.{arith}
use mathlib.Core.Path.{◌≡◌, refl, sym, ap, subst, ◌∙◌}
use mathlib.Core.Bool.{Bool, true, false, cond}
use mathlib.Core.List.{List, [], ◌∷◌, Memᴰ, map}
use lib.ListN.{length, get_or}
use Rattle.paper.specs.declared.Label.{Label}
use Rattle.paper.specs.Formula.{has, labels, Rising, Formula}
use Rattle.paper.specs.Branch.{branches}
use Rattle.paper.specs.Transition.{key, is_kept, keys, key_at, Ascending}
use Rattle.paper.proofs.Bools.{same_answer}
use Rattle.paper.proofs.Labels.{has-mem, sub-has, rising-ext, branch-sub}
use Rattle.paper.proofs.Distinct.{is_lower-irreflexive, keys-are-listed}
use Rattle.paper.proofs.Keys.{key-rises, of-key, to-key, to-kept, of-kept}
use Rattle.paper.proofs.KeyLists.{get_d-mem}

-- a key is at some number
pub numbered : {k : List Label} {ks : List (List Label)} → Memᴰ k ks → (i : ℕ) × (i < length ks) × (get_or ks i [] ≡ k)
numbered (Memᴰ.head e) = (0, omega arith, cc)
numbered (Memᴰ.tail t) = let (i, h, e) = numbered t in (suc i, omega (arith, h), e)

-- and at one only
one_number : (ks : List (List Label)) → Ascending ks → (j k : ℕ) → j < length ks → k < length ks → get_or ks j [] ≡ get_or ks k [] → j ≡ k
one_number [] c j k h g e = absurd (omega arith)
one_number (x ∷ ks) c zero zero h g e = refl
one_number (x ∷ ks) c zero (suc k) h g e =
    absurd (is_lower-irreflexive x (rw (← e) at (c.0 (get_or ks k []) (get_d-mem ks k (omega (arith, g))))))
one_number (x ∷ ks) c (suc j) zero h g e =
    absurd (is_lower-irreflexive x (rw e at (c.0 (get_or ks j []) (get_d-mem ks j (omega (arith, h))))))
one_number (x ∷ ks) c (suc j) (suc k) h g e = ap suc (one_number ks c.1 j k (omega (arith, h)) (omega (arith, g)) e)

-- lists made alike from one list are made alike of each member
at_each : (g h : Label → ℕ) (xs : List Label) {x : Label} → map g xs ≡ map h xs → Memᴰ x xs → g x ≡ h x
at_each g h [] e t = elim t [ ]
at_each g h (y ∷ xs) e (Memᴰ.head q) = let z : g y ≡ h y = cc in rw q z
at_each g h (y ∷ xs) e (Memᴰ.tail t) = at_each g h xs (let z : map g xs ≡ map h xs = cc in z) t

module _ (f : Formula) (A : List Label) (rises : Rising 0 (labels f)) where
  -- the chosen labels that a class keeps are its key
  chosen-kept : (b c : List Label) → Memᴰ b (branches f) → ((l : Label) → is_kept f A (key A b) l ≡ true → is_kept f A (key A c) l ≡ true)
      → (l : Label) → has (key A b) l ≡ true → has (key A c) l ≡ true
  chosen-kept b c t same l h =
      let (on-b, chosen) = of-key A b l h in
      let (d, u, e, on-d) = of-kept A (branches f) (key A c) l (same l (to-kept A (branches f) (key A b) b l t refl on-b)) in
      subst (λ k. has k l ≡ true) e (to-key A d l on-d chosen)

  same_kept : (i j : List Label) → Memᴰ i (keys f A) → Memᴰ j (keys f A) → ((l : Label) → is_kept f A i l ≡ is_kept f A j l) → i ≡ j
  same_kept i j t u same =
      let (b, s, p) = (keys-are-listed f A).from i t in
      let (c, v, q) = (keys-are-listed f A).from j u in
      p
      ∙ rising-ext 0 0 (key A b) (key A c) (key-rises A (branch-sub f b s) rises) (key-rises A (branch-sub f c v) rises)
      (chosen-kept b c s (λ l h. rw (← q) (sym (same l) ∙ rw p h)))
      (chosen-kept c b v (λ l h. rw (← p) (same l ∙ rw q h)))
      ∙ sym q

  pub kept-differ : (j k : ℕ) → j < length (keys f A) → k < length (keys f A)
      → ((l : Label) → is_kept f A (key_at f A j) l ≡ is_kept f A (key_at f A k) l) → j ≡ k
  kept-differ j k h g same =
      one_number (keys f A) (keys-are-listed f A).ascending j k h g
      (same_kept (key_at f A j) (key_at f A k) (get_d-mem (keys f A) j h) (get_d-mem (keys f A) k g) same)

  -- a mark for each label of the formula: 1 if the class of the k-th key keeps it, else 0
  abbrev marked : ℕ → Label → ℕ
  marked k l = cond (is_kept f A (key_at f A k) l) 1 0

  -- where the marks are alike, a label that one class keeps the other keeps
  kept-alike : (j k : ℕ) → map (marked j) (labels f) ≡ map (marked k) (labels f) → (l : Label)
      → is_kept f A (key_at f A j) l ≡ true → is_kept f A (key_at f A k) l ≡ true
  kept-alike j k alike l h =
      let (b, t, e, on-b) = of-kept A (branches f) (key_at f A j) l h in
      let in-formula = has-mem (labels f) l (sub-has l (branch-sub f b t) on-b) in
      go (is_kept f A (key_at f A k) l) (rw h at (at_each (marked j) (marked k) (labels f) alike in-formula))
    where
      go : (t : Bool) → ◌≡◌ {A = ℕ} 1 (cond t 1 0) → t ≡ true
      go true e = refl
      go false e = absurd (omega arith)

  pub bytes-differ : (j k : ℕ) → j < length (keys f A) → k < length (keys f A) → map (marked j) (labels f) ≡ map (marked k) (labels f) → j ≡ k
  bytes-differ j k h g alike = kept-differ j k h g (λ l. same_answer _ _ (kept-alike j k alike l) (kept-alike k j (sym alike) l))
