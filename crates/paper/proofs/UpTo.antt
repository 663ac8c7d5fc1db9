-- Laws of the numbers below n and of those of them that pass a test, and of tests on a list that another is mapped to.
use Prim.Native.Nat.{ℕ, zero, suc, ◌+◌, ◌<◌, ◌≤◌}
use native.Mathlib.Omega.{arith}
use native.Mathlib.Nat.{eq-or-lt_of_le}
use native.Mathlib.Numerals.{add-one}
use mathlib.Core.Path.{◌≡◌, refl, ap, ◌∙◌}
use mathlib.Core.Bool.{Bool, true, false, cond, ◌||◌, or-false}
use mathlib.Core.List.Memᴰ
use mathlib.Core.List.{List, [], ◌∷◌, ◌++◌, map, Memᴰ}
use lib.ListN.{length, length-append}
use Rattle.paper.specs.Lists.{any_of, those, up_to}
use Rattle.paper.proofs.Bools.{not_so, pick}
use Rattle.paper.proofs.Lists.{any_append, to-any, of-any, to-those, of-those, to_none, those-append}
use Rattle.paper.proofs.Tests.{never}

pub length-up_to : (n : ℕ) → length (up_to n) ≡ n
length-up_to zero = refl
length-up_to (suc n) = let e = length-up_to n in let a = length-append (up_to n) (n ∷ []) in omega arith

pub of-up_to : (n k : ℕ) → Memᴰ k (up_to n) → k < n
of-up_to zero k t = absurd (Memᴰ.not-nil t)
of-up_to (suc n) k t =
    pick (Memᴰ.append_cases (up_to n) t) (λ s. let h = of-up_to n k s in omega arith)
    (λ s. let e = Memᴰ.eq_of_singleton s in omega arith)

pub in-up_to : (n i : ℕ) → i < n → Memᴰ i (up_to n)
in-up_to zero i h = absurd (omega arith)
in-up_to (suc n) i h =
    pick (eq-or-lt_of_le {n = i} {m = n} (omega arith)) (λ e. Memᴰ.append_right (up_to n) (Memᴰ.head e)) (λ l. Memᴰ.append_left (n ∷ []) (in-up_to n i l))

-- one more number
pub any_next : (p : ℕ → Bool) (n : ℕ) → any_of p (up_to (n + 1)) ≡ (any_of p (up_to n) || p n)
any_next p n = rw add-one (any_append p (up_to n) (n ∷ []) ∙ ap (λ t. any_of p (up_to n) || t) (or-false (p n)))

-- numbers that fail add nothing
pub any-past : (p : ℕ → Bool) (n m : ℕ) → n ≤ m → ((a : ℕ) → n ≤ a → a < m → p a ≡ false) → any_of p (up_to m) ≡ any_of p (up_to n)
any-past p n zero h none = let e : 0 ≡ n = omega arith in rw (← e)
any-past p n (suc m) h none =
    pick (eq-or-lt_of_le h) (λ e. rw e)
    (λ l. further (any-past p n m (omega arith) (λ a b c. none a b (omega arith))) (omega arith))
  where
    further : any_of p (up_to m) ≡ any_of p (up_to n) → n ≤ m → any_of p (up_to m ++ (m ∷ [])) ≡ any_of p (up_to n)
    further e l = any_append p (up_to m) (m ∷ []) ∙ rw (none m l (omega arith), e) (or-false (any_of p (up_to n)))

-- tests on a list that another is mapped to
module _ {X Y : Type 0} (h : X → Y) where
  pub any-map : (p : Y → Bool) (xs : List X) → any_of p (map h xs) ≡ any_of (λ x. p (h x)) xs
  any-map p [] = refl
  any-map p (x ∷ xs) = ap (λ t. p (h x) || t) (any-map p xs)

  pub those-map : (p : Y → Bool) (xs : List X) → those p (map h xs) ≡ map h (those (λ x. p (h x)) xs)
  those-map p [] = refl
  those-map p (x ∷ xs) = go (p (h x)) (those-map p xs)
    where
      go : (t : Bool) → those p (map h xs) ≡ map h (those (λ x. p (h x)) xs)
          → cond t (h x ∷ those p (map h xs)) (those p (map h xs)) ≡ map h (cond t (x ∷ those (λ x. p (h x)) xs) (those (λ x. p (h x)) xs))
      go true e = ap (λ ys. h x ∷ ys) e
      go false e = e

module _ (p q : ℕ → Bool) (n : ℕ) where
  -- one of those that pass q passes p; none does
  pub some-kept : (i : ℕ) → i < n → q i ≡ true → p i ≡ true → any_of p (those q (up_to n)) ≡ true
  some-kept i h s t = to-any p (to-those q (in-up_to n i h) s) t

  pub none-some : ((i : ℕ) → i < n → q i ≡ true → p i ≡ false) → any_of p (those q (up_to n)) ≡ false
  none-some f = not_so _ (λ e. let (i, t, h) = of-any p (those q (up_to n)) e in let (s, k) = of-those q (up_to n) t in never _ h (f i (of-up_to n i s) k))

  pub none_kept : ((i : ℕ) → i < n → q i ≡ true → p i ≡ false) → those p (those q (up_to n)) ≡ []
  none_kept f = to_none p (those q (up_to n)) (λ i t. let (s, k) = of-those q (up_to n) t in f i (of-up_to n i s) k)

-- the first of those that pass q to pass p
pub first-kept : (p q : ℕ → Bool) (n k : ℕ) → k < n → ((i : ℕ) → i < k → q i ≡ true → p i ≡ false) → q k ≡ true → p k ≡ true
    → (js : List ℕ) × (those p (those q (up_to n)) ≡ k ∷ js)
first-kept p q zero k h f s t = absurd (omega arith)
first-kept p q (suc n) k h f s t = pick (eq-or-lt_of_le {n = k} {m = n} (omega arith)) last (λ l. before (first-kept p q n k l f s t))
  where
    split : those p (those q (up_to (suc n))) ≡ those p (those q (up_to n)) ++ those p (those q (n ∷ []))
    split = ap (those p) (those-append q (up_to n) (n ∷ [])) ∙ those-append p (those q (up_to n)) (those q (n ∷ []))

    last : k ≡ n → (js : List ℕ) × (those p (those q (up_to (suc n))) ≡ k ∷ js)
    last e =
        let none : those p (those q (up_to n)) ≡ [] = none_kept p q n (λ i l g. f i (omega arith) g) in
        let a : q n ≡ true = rw (← e) s in
        let b : p n ≡ true = rw (← e) t in
        ([], split ∙ rw (none, a, b, e))

    before : (js : List ℕ) × (those p (those q (up_to n)) ≡ k ∷ js) → (js : List ℕ) × (those p (those q (up_to (suc n))) ≡ k ∷ js)
    before (js, e) = (js ++ those p (those q (n ∷ [])), split ∙ rw e)
