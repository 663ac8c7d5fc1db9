-- The numbers of keys, and what the class of each keeps, by how branches are made: of a leaf, of joined branches, where numbers are split
-- by quotient and remainder, and of branches as alternatives, where the numbers of the second follow those of the first. For any number w
-- of chosen labels on every branch.
use Prim.Native.Nat.{ℕ, zero, suc, ◌+◌, ◌-◌, ◌*◌, ◌/◌, ◌%◌, ◌<◌}
use native.Mathlib.Omega.{arith}
use mathlib.Core.Path.{◌≡◌, refl, sym, subst, ap, ap₂, ◌∙◌}
use mathlib.Core.Bool.{Bool, true, false, cond, ◌&&◌, ◌||◌, or-false}
use mathlib.Core.List.Memᴰ
use mathlib.Core.List.{List, [], ◌∷◌, ◌++◌, Memᴰ}
use lib.Dec.{ltb}
use lib.ListN.{length, get_or, length-append, get_or-append}
use lib.Seq.{get_or-append-add}
use borrow.Author.Tests.{ltb-true, ltb-false}
use Rattle.paper.specs.Lists.{pairs}
use Rattle.paper.specs.Formula.{Label, same, has}
use Rattle.paper.specs.Transition.{key, is_lower}
use Rattle.paper.specs.Inside.Structure.KeyCount.{KeyCount, number, leaf_keys, join_keys}
use Rattle.paper.proofs.Bools.{pick}
use Rattle.paper.proofs.Lists.{any_append, to-pairs}
use Rattle.paper.proofs.Distinct.{same_key-refl, is_lower-irreflexive}
use Rattle.paper.proofs.Keys.{kept_in}
use Rattle.paper.proofs.KeyLists.{get_d-mem, length_pairs, at-pairs, keys_of, Level, key-append, of-keys_of}
use Rattle.paper.proofs.KeyLists.{keys-of-pairs, keys-of-append, keys-of-keyless, kept_append, kept-none, kept-pairs}
use Rattle.paper.proofs.KeyCounts.{number-of-both, number-of-either}

at-most-empty : (i : ℕ) → ◌≡◌ {A = List Label} (get_or ([] ∷ []) i []) []
at-most-empty zero = refl
at-most-empty (suc i) = refl

abbrev pub is_zero : ℕ → Bool
is_zero zero = true
is_zero (suc n) = false

zero-sum : (v u w : ℕ) → v + u ≡ w → (is_zero v && is_zero u) ≡ is_zero w
zero-sum zero zero zero e = refl
zero-sum zero zero (suc w) e = absurd (omega arith)
zero-sum zero (suc u) zero e = absurd (omega arith)
zero-sum zero (suc u) (suc w) e = refl
zero-sum (suc v) u zero e = absurd (omega arith)
zero-sum (suc v) u (suc w) e = refl

-- the first n by the one, those after them by the other
abbrev pub in_turn : ℕ → (ℕ → List Label) → (ℕ → List Label) → ℕ → List Label
in_turn n ka kb i = cond (ltb i n) (ka i) (kb (i - n))

module _ (A : List Label) where
  -- of branches with w chosen labels each: how many keys they have, and what the class of the i-th keeps
  pub record Numbered (w : ℕ) (bs : List (List Label)) (count : KeyCount) (kept : ℕ → List Label) : Type 0 where
    pub numbers : number count ≡ length (keys_of A bs)
    pub empties : count.empty ≡ is_zero w
    pub keeps : (i : ℕ) → i < length (keys_of A bs) → (l : Label) → kept_in A bs (get_or (keys_of A bs) i []) l ≡ has (kept i) l

  pub leaf-numbered : (w : ℕ) (l : Label) → Level A w ((l ∷ []) ∷ []) → Numbered w ((l ∷ []) ∷ []) (leaf_keys (has A l)) (λ i. l ∷ [])
  leaf-numbered w l level = record {
    numbers = one (has A l);
    empties = subst (λ n. (leaf_keys (has A l)).empty ≡ is_zero n) (level (l ∷ []) (Memᴰ.head refl)) (none (has A l));
    keeps = itself;
  }
    where
      one : (t : Bool) → number (leaf_keys t) ≡ 1
      one true = refl
      one false = refl

      none : (t : Bool) → (leaf_keys t).empty ≡ is_zero (length (cond t (l ∷ []) []))
      none true = refl
      none false = refl

      itself : (i : ℕ) → i < 1 → (j : Label) → kept_in A ((l ∷ []) ∷ []) (get_or (key A (l ∷ []) ∷ []) i []) j ≡ has (l ∷ []) j
      itself zero h j = rw (same_key-refl (key A (l ∷ []))) (or-false (has (l ∷ []) j))
      itself (suc i) h j = absurd (omega arith)

  -- joined branches: quotient and remainder by the number of keys of the second part
  pub pairs-numbered : (w v u n : ℕ) (bs cs : List (List Label)) (a b : KeyCount) (ka kb : ℕ → List Label) → v + u ≡ w → n ≡ number b
      → Level A v bs → Numbered v bs a ka → Numbered u cs b kb → Numbered w (pairs bs cs) (join_keys true a b) (λ i. ka (i / n) ++ kb (i % n))
  pairs-numbered w v u n bs cs a b ka kb sum size level left right = record {
    numbers = number-of-both a b ∙ ap₂ ◌*◌ left.numbers right.numbers ∙ sym (length_pairs (keys_of A bs) (keys_of A cs)) ∙ ap length (sym listed);
    empties = ap₂ ◌&&◌ left.empties right.empties ∙ zero-sum v u w sum;
    keeps = λ i h l. rw (size ∙ right.numbers, listed) (joint i l (rw listed at h));
  }
    where
      listed : keys_of A (pairs bs cs) ≡ pairs (keys_of A bs) (keys_of A cs)
      listed = keys-of-pairs A v bs cs level

      joint : (i : ℕ) (l : Label) → i < length (pairs (keys_of A bs) (keys_of A cs))
          → kept_in A (pairs bs cs) (get_or (pairs (keys_of A bs) (keys_of A cs)) i []) l
          ≡ has (ka (i / length (keys_of A cs)) ++ kb (i % length (keys_of A cs))) l
      joint i l h =
          let (hq, hr, at) = at-pairs (keys_of A bs) (keys_of A cs) i h in
          let (x, t, p) = of-keys_of A bs (get_d-mem (keys_of A bs) _ hq) in
          let (y, s, q) = of-keys_of A cs (get_d-mem (keys_of A cs) _ hr) in
          rw (at, any_append, ← left.keeps _ hq l, ← right.keeps _ hr l, p, q) (kept-pairs A v bs cs level x y t s l)

  -- branches as alternatives: where the only key is empty, its transition keeps them all
  abbrev pub Alternatives : ℕ → List (List Label) → KeyCount → List Label → (ℕ → List Label) → Type 0
  Alternatives w bs count all kept = Numbered w bs count (λ i. cond count.empty all (kept i))

  module _ (bs cs : List (List Label)) (a b : KeyCount) (M N : List Label) (ka kb : ℕ → List Label) where
    pub keyless-alternatives : (x y : List Label) → Memᴰ x bs → Memᴰ y cs → Level A 0 bs → Level A 0 cs
        → Alternatives 0 bs a M ka → Alternatives 0 cs b N kb → Alternatives 0 (bs ++ cs) (join_keys false a b) (M ++ N) (in_turn (number a) ka kb)
    keyless-alternatives x y t u lb lc left right = record { numbers = one; empties = ap₂ ◌||◌ left.empties right.empties; keeps = all }
      where
        of-first : keys_of A bs ≡ [] ∷ []
        of-first = keys-of-keyless A bs lb x t

        of-second : keys_of A cs ≡ [] ∷ []
        of-second = keys-of-keyless A cs lc y u

        of-both : keys_of A (bs ++ cs) ≡ [] ∷ []
        of-both = keys-of-keyless A (bs ++ cs) (λ z s. pick (Memᴰ.append_cases bs s) (lb z) (lc z)) x (Memᴰ.append_left cs t)

        one : number (join_keys false a b) ≡ length (keys_of A (bs ++ cs))
        one =
            let e : ◌≡◌ {A = ℕ} (cond (a.empty && b.empty) 1 0) 1 = rw (left.empties, right.empties) in
            rw of-both (omega (arith, number-of-either a b, left.numbers ∙ ap length of-first, right.numbers ∙ ap length of-second))

        all : (i : ℕ) → i < length (keys_of A (bs ++ cs)) → (l : Label)
            → kept_in A (bs ++ cs) (get_or (keys_of A (bs ++ cs)) i []) l ≡ has (cond (a.empty || b.empty) (M ++ N) (in_turn (number a) ka kb i)) l
        all i h l =
            let p = rw (left.empties, of-first) at (left.keeps 0 (rw of-first (omega arith)) l) in
            let q = rw (right.empties, of-second) at (right.keeps 0 (rw of-second (omega arith)) l) in
            rw (left.empties, of-both, at-most-empty i, any_append (same l) M N, ← p, ← q) (kept_append A bs cs [] l)

    pub keyed-alternatives : (w : ℕ) → ((x y : List Label) → Memᴰ x bs → Memᴰ y cs → is_lower (key A x) (key A y) ≡ true)
        → Alternatives (suc w) bs a M ka → Alternatives (suc w) cs b N kb
        → Alternatives (suc w) (bs ++ cs) (join_keys false a b) (M ++ N) (in_turn (number a) ka kb)
    keyed-alternatives w lower left right = record {
      numbers = sum;
      empties = ap₂ ◌||◌ left.empties right.empties;
      keeps = λ i h l. rw (left.numbers, left.empties, right.empties, listed) (one i (rw listed at h) l (ltb i (length (keys_of A bs))) refl);
    }
      where
        listed : keys_of A (bs ++ cs) ≡ keys_of A bs ++ keys_of A cs
        listed = keys-of-append A bs cs lower

        sum : number (join_keys false a b) ≡ length (keys_of A (bs ++ cs))
        sum =
            let e : ◌≡◌ {A = ℕ} (cond (a.empty && b.empty) 1 0) 0 = rw left.empties in
            rw (listed, length-append) (omega (arith, number-of-either a b, left.numbers, right.numbers))

        -- no key of the one is a key of the other
        never : (x y : List Label) → Memᴰ x bs → Memᴰ y cs → key A x ≡ key A y → ⊥
        never x y t u e = is_lower-irreflexive (key A y) (subst (λ k. is_lower k (key A y) ≡ true) e (lower x y t u))

        one : (i : ℕ) → i < length (keys_of A bs ++ keys_of A cs) → (l : Label) → (t : Bool) → ltb i (length (keys_of A bs)) ≡ t
            → kept_in A (bs ++ cs) (get_or (keys_of A bs ++ keys_of A cs) i []) l ≡ has (cond t (ka i) (kb (i - length (keys_of A bs)))) l
        one i h l true e =
            let under = ltb-true i (length (keys_of A bs)) e in
            let at = get_or-append (keys_of A bs) (keys_of A cs) [] i under in
            let (x, t, p) = of-keys_of A bs (get_d-mem (keys_of A bs) i under) in
            let no = kept-none A cs (get_or (keys_of A bs) i []) l (λ y u q. never x y t u (sym (q ∙ p))) in
            rw (at, kept_append A bs cs (get_or (keys_of A bs) i []) l, no, or-false) (rw left.empties at (left.keeps i under l))
        one i h l false e =
            let over = ltb-false i (length (keys_of A bs)) e in
            let size = length-append (keys_of A bs) (keys_of A cs) in
            let j = i - length (keys_of A bs) in
            let under : j < length (keys_of A cs) = omega arith in
            let beyond : i ≡ length (keys_of A bs) + j = omega arith in
            let at = ap (λ z. get_or (keys_of A bs ++ keys_of A cs) z []) beyond ∙ get_or-append-add (keys_of A bs) (keys_of A cs) j [] in
            let (y, u, q) = of-keys_of A cs (get_d-mem (keys_of A cs) j under) in
            let no = kept-none A bs (get_or (keys_of A cs) j []) l (λ x t p. never x y t u (p ∙ q)) in
            rw (at, kept_append A bs cs (get_or (keys_of A cs) j []) l, no) (rw right.empties at (right.keeps j under l))

  -- the branches of a conjunction's parts have as many chosen labels each as any one of them
  module _ (w : ℕ) (bs cs : List (List Label)) (level : Level A w (pairs bs cs)) (b c : List Label) (t : Memᴰ b bs) (u : Memᴰ c cs) where
    pub level-sum : (x y : List Label) → Memᴰ x bs → Memᴰ y cs → length (key A x) + length (key A y) ≡ w
    level-sum x y s r = sym (length-append (key A x) (key A y)) ∙ ap length (sym (key-append A x y)) ∙ level (x ++ y) (to-pairs s r)

    pub level-first : Level A (length (key A b)) bs
    level-first x s = omega (arith, level-sum x c s u, level-sum b c t u)

    pub level-second : Level A (length (key A c)) cs
    level-second y r = omega (arith, level-sum b y t r, level-sum b c t u)
