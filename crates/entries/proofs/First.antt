-- Laws of `first`: where a search for the lowest offender stops, and what it has shown of what it passed.
use Prim.Native.Nat.{ℕ, zero, suc, ◌<◌, ◌≤◌}
use native.Mathlib.Omega.{arith}
use native.Mathlib.Nat.{eq-or-lt_of_le}
use mathlib.Core.Bool.{Bool, true, false, cond, ◌||◌, true≢false}
use mathlib.Core.Path.{◌≡◌, refl, sym, ap, ◌∙◌}
use Rattle.std.proofs.lemmas.Bool.{cases_lt}
use Rattle.paper.proofs.Bools.{pick}
use Rattle.entries.specs.First.{first}
use Rattle.entries.specs.Inside.Asked.{FirstAsked, OneAnswer}

-- a search that stopped at i
pub first_found : (bad : ℕ → Bool) (n i : ℕ) → ((k : ℕ) → k < i → bad k ≡ false) → i < n → bad i ≡ true → first bad n ≡ i
unfolding first
first_found bad zero i below h at = absurd (omega arith)
first_found bad (suc n) zero below h at = rw at
first_found bad (suc n) (suc i) below h at =
    rw (below 0 (omega arith)) (ap suc (first_found (λ k. bad (suc k)) n i (λ k b. below (suc k) (omega arith)) (omega arith) at))

-- a search that passed all
pub first-none : (bad : ℕ → Bool) (n : ℕ) → ((k : ℕ) → k < n → bad k ≡ false) → first bad n ≡ n
unfolding first
first-none bad zero below = refl
first-none bad (suc n) below = rw (below 0 (omega arith)) (ap suc (first-none (λ k. bad (suc k)) n (λ k b. below (suc k) (omega arith))))

pub first-le : (bad : ℕ → Bool) (n : ℕ) → first bad n ≤ n
unfolding first
first-le bad zero = omega arith
first-le bad (suc n) = either (bad 0) (first (λ k. bad (suc k)) n) (first-le (λ k. bad (suc k)) n)
  where
    either : (b : Bool) (m : ℕ) → m ≤ n → cond b 0 (suc m) ≤ suc n
    either true m h = omega arith
    either false m h = omega arith

-- whatever stands below the place where it stopped is no offender
pub first_below : (bad : ℕ → Bool) (n k : ℕ) → k < first bad n → bad k ≡ false
unfolding first
first_below bad zero k h = absurd (omega arith)
first_below bad (suc n) k h = either (bad 0) refl (first_below (λ j. bad (suc j)) n) k h
  where
    either : (b : Bool) → bad 0 ≡ b → {m : ℕ} → ((j : ℕ) → j < m → bad (suc j) ≡ false) → (k : ℕ) → k < cond b 0 (suc m) → bad k ≡ false
    either true e below k h = absurd (omega arith)
    either false e below zero h = e
    either false e below (suc k) h = below k (omega arith)

-- what it stopped at is one
pub first-at : (bad : ℕ → Bool) (n : ℕ) → first bad n < n → bad (first bad n) ≡ true
unfolding first
first-at bad zero h = absurd (omega arith)
first-at bad (suc n) h = either (bad 0) refl (first-at (λ j. bad (suc j)) n) h
  where
    either : (b : Bool) → bad 0 ≡ b → {m : ℕ} → (m < n → bad (suc m) ≡ true) → cond b 0 (suc m) < suc n → bad (cond b 0 (suc m)) ≡ true
    either true e at h = e
    either false e at h = at (omega arith)

-- a search that passed all shows that there is no offender
pub first-all : (bad : ℕ → Bool) (n : ℕ) → first bad n ≡ n → (k : ℕ) → k < n → bad k ≡ false
first-all bad n e k h = first_below bad n k (omega arith)

-- it rests on the tests below n alone
pub first-same : (p q : ℕ → Bool) (n : ℕ) → ((k : ℕ) → k < n → p k ≡ q k) → first p n ≡ first q n
unfolding first
first-same p q zero e = refl
first-same p q (suc n) e = cc (e 0 (omega arith), first-same (λ k. p (suc k)) (λ k. q (suc k)) n (λ k h. e (suc k) (omega arith)))

-- whoever asks a test that answers as `bad` does finds what `first` finds
pub first_by : {answers : ℕ → Bool → Type 0} (bad : ℕ → Bool) {n found : ℕ} → FirstAsked answers n found
    → ((k : ℕ) (b : Bool) → k < n → answers k b → b ≡ bad k) → found ≡ first bad n
first_by bad {n} {found} asked agree =
    pick (eq-or-lt_of_le asked.within)
    (λ e. e ∙ sym (first-none bad n (λ k h. stays k (omega arith))))
    (λ h. sym (first_found bad n found stays h (sym (agree found true h (asked.stopped h)))))
  where
    stays : (k : ℕ) → k < found → bad k ≡ false
    stays k h = sym (agree k false (omega (arith, asked.within)) (asked.passed k h))

-- and where a test has one answer at each k, there is one find
module _ {answers : ℕ → Bool → Type 0} {n : ℕ} (one : OneAnswer answers n) where
  level : (a b : ℕ) → FirstAsked answers n a → FirstAsked answers n b → a ≤ b → a ≡ b
  level a b p q h =
      pick (eq-or-lt_of_le h) (λ e. e)
      (λ l. let low : a < n = omega (arith, q.within) in absurd (one a low (q.passed a l) (p.stopped low)))

  pub first_once : (a b : ℕ) → FirstAsked answers n a → FirstAsked answers n b → a ≡ b
  first_once a b p q = pick (cases_lt a b) (λ h. level a b p q (omega arith)) (λ h. sym (level b a q p h))

-- two tests at once
pub neither : (a b : Bool) → (a || b) ≡ false → (a ≡ false) × (b ≡ false)
neither true b e = absurd (true≢false e)
neither false b e = (refl, e)

module _ (p q : ℕ → Bool) (n : ℕ) where
  pub to-neither : first (λ k. p k || q k) n ≡ n → (first p n ≡ n) × (first q n ≡ n)
  to-neither e =
      let h : (k : ℕ) → k < n → (p k ≡ false) × (q k ≡ false) = λ k l. neither (p k) (q k) (first-all (λ j. p j || q j) n e k l) in
      (first-none p n (λ k l. (h k l).0), first-none q n (λ k l. (h k l).1))

  pub of-neither : first p n ≡ n → first q n ≡ n → first (λ k. p k || q k) n ≡ n
  of-neither a b = first-none (λ k. p k || q k) n (λ k l. rw (first-all p n a k l) (first-all q n b k l))
