-- The last number below n that passes a test: one that passes, with none passing above it, is the last. The same of the
-- number after it, which is 0 where none passes.
use Prim.Native.Nat.{ℕ, zero, suc, ◌+◌, ◌<◌, ◌≤◌}
use native.Mathlib.Omega.{arith}
use native.Mathlib.Nat.{eq-or-lt_of_le}
use mathlib.Core.Path.{◌≡◌, refl, sym, ap, ◌∙◌}
use mathlib.Core.Bool.{Bool, true, false, cond, ◌||◌, false≢true}
use mathlib.Core.Logic.{◌⊎◌}
use mathlib.Core.List.{[], ◌∷◌}
use Rattle.paper.specs.Lists.{any_of}
use Rattle.paper.proofs.Bools.{pick}
use Rattle.paper.proofs.Lists.{any_append}
use Rattle.paper.specs.Lists.{up_to, last_of}

-- k passes, and none above it below n does
pub record Last (p : ℕ → Bool) (n k : ℕ) : Type 0 where
  pub below : k < n
  pub passes : p k ≡ true
  pub above : (j : ℕ) → k < j → j < n → p j ≡ false

up-to : (k n : ℕ) → k < suc n → (k ≡ n) ⊎ (k < n)
up-to k n h = let b : k ≤ n = omega arith in eq-or-lt_of_le b

module _ (p : ℕ → Bool) where
  -- the last below n + 1 that is not n, and the last below n
  last_under : {n k : ℕ} → Last p (suc n) k → k < n → Last p n k
  last_under l h = record { below = h; passes = l.passes; above = λ j a b. l.above j a (omega arith) }

  last-over : {n k : ℕ} → Last p n k → p n ≡ false → Last p (suc n) k
  last-over {n} {k} l e = record {
    below = let b = l.below in omega arith;
    passes = l.passes;
    above = λ j a b. pick (up-to j n b) (λ q. ap p q ∙ e) (l.above j a);
  }

  module _ (none : ℕ) where
    pub last-is : (n k : ℕ) → Last p n k → last_of p none n ≡ k
    last-is zero k l = let b = l.below in absurd (omega arith)
    last-is (suc n) k l =
        pick (up-to k n l.below) (λ e. let t : p n ≡ true = ap p (sym e) ∙ l.passes in rw t (sym e))
        (λ h. rw (l.above n h (omega arith)) (last-is n k (last_under l h)))

    -- where some number passes, what is found is the last
    pub last-of : (n j : ℕ) → j < n → p j ≡ true → Last p n (last_of p none n)
    last-of zero j h e = absurd (omega arith)
    last-of (suc n) j h e = either (p n) refl (last-of n j)
      where
        either : (t : Bool) → p n ≡ t → (j < n → p j ≡ true → Last p n (last_of p none n)) → Last p (suc n) (cond t n (last_of p none n))
        either true q r = record { below = omega arith; passes = q; above = λ i a b. absurd (omega arith) }
        either false q r = pick (up-to j n h) (λ i. let z : p n ≡ true = ap p (sym i) ∙ e in absurd (false≢true (sym q ∙ z))) (λ b. last-over (r b e) q)

  -- the number after the last, or 0
  abbrev pub after_last : ℕ → ℕ
  after_last n = cond (any_of p (up_to n)) (last_of p 0 n + 1) 0

  after-step : (n : ℕ) → after_last (suc n) ≡ cond (p n) (n + 1) (after_last n)
  after-step n = rw (any_append p (up_to n) (n ∷ [])) (either (p n) (any_of p (up_to n)))
    where
      either : (t s : Bool) → cond (s || (t || false)) (cond t n (last_of p 0 n) + 1) 0 ≡ cond t (n + 1) (cond s (last_of p 0 n + 1) 0)
      either true true = refl
      either true false = refl
      either false true = refl
      either false false = refl

  pub after_is : (n k : ℕ) → Last p n k → after_last n ≡ k + 1
  after_is zero k l = let b = l.below in absurd (omega arith)
  after_is (suc n) k l =
      after-step n
      ∙ pick (up-to k n l.below) (λ e. let t : p n ≡ true = ap p (sym e) ∙ l.passes in rw t (ap (λ (i : ℕ). i + 1) (sym e)))
      (λ h. rw (l.above n h (omega arith)) (after_is n k (last_under l h)))

  -- numbers that do not pass change nothing
  pub after_more : (n m : ℕ) → n ≤ m → ((j : ℕ) → n ≤ j → j < m → p j ≡ false) → after_last m ≡ after_last n
  after_more n zero h none = let e : n ≡ 0 = omega arith in rw e
  after_more n (suc m) h none =
      pick (eq-or-lt_of_le h) (λ e. rw e)
      (λ b. after-step m ∙ rw (none m (omega arith) (omega arith)) (after_more n m (omega arith) (λ j a c. none j a (omega arith))))

-- it rests on the tests below n alone
pub after_same : (p q : ℕ → Bool) (n : ℕ) → ((j : ℕ) → j < n → p j ≡ q j) → after_last p n ≡ after_last q n
after_same p q zero e = refl
after_same p q (suc n) e =
    after-step p n ∙ rw (e n (omega arith), after_same p q n (λ j h. e j (omega arith))) (sym (after-step q n))
