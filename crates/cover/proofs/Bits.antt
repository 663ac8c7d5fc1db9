-- The bits of words: bit by bit, `&` is "and", `|` is "or", `!` is "not"; a power of two has one bit.
use Prim.Native.Nat.{ℕ, zero, suc, ◌-◌, ◌/◌, ◌%◌, ◌^◌, ◌<◌, ◌≤◌, min, max}
use native.Mathlib.Omega.{arith}
use mathlib.Core.Path.{◌≡◌, refl, sym, ◌∙◌}
use mathlib.Core.Bool.{Bool, true, false, not, ◌&&◌, ◌||◌}
use mir.Syntax.{w64}
use lib.Dec.{eqb}
use lib.Bits.{bit_and, bit_or}
use lib.Count.{count_trailing_zeros}
use borrow.Author.Tests.{eq-eqb, ne_eqb, eqb-true, eqb-false}
use Rattle.std.specs.Int.{bit_not, trailing_zeros}
use Rattle.std.specs.Int as word
use Rattle.std.proofs.lemmas.Nat.Bits.{bit_at_and, bit_at_or, bit_at_not, bit_at-lt, bit_at-zero, bit_at_ones}
use Rattle.std.proofs.lemmas.Nat.Bits.{bit_at-pow_same, bit_at-pow_other, bit_at-trailing_zeros}
use Rattle.entries.specs.First.{first}
use Rattle.entries.proofs.First.{first_found, first-none}
use Rattle.rows.proofs.Meets.{lt-or-le}
use Rattle.paper.proofs.Bools.{pick}
use Rattle.cover.specs.Inside.Masks.{all_bits, bit_at}

-- for single bits
single-and : (p q : ℕ) → p < 2 → q < 2 → eqb (min p q) 1 ≡ (eqb p 1 && eqb q 1)
single-and zero zero h g = refl
single-and zero (suc zero) h g = refl
single-and zero (suc (suc q)) h g = absurd (omega arith)
single-and (suc zero) zero h g = refl
single-and (suc zero) (suc zero) h g = refl
single-and (suc zero) (suc (suc q)) h g = absurd (omega arith)
single-and (suc (suc p)) q h g = absurd (omega arith)

single-or : (p q : ℕ) → p < 2 → q < 2 → eqb (max p q) 1 ≡ (eqb p 1 || eqb q 1)
single-or zero zero h g = refl
single-or zero (suc zero) h g = refl
single-or zero (suc (suc q)) h g = absurd (omega arith)
single-or (suc zero) zero h g = refl
single-or (suc zero) (suc zero) h g = refl
single-or (suc zero) (suc (suc q)) h g = absurd (omega arith)
single-or (suc (suc p)) q h g = absurd (omega arith)

single-not : (p : ℕ) → p < 2 → eqb (1 - p) 1 ≡ not (eqb p 1)
single-not zero h = refl
single-not (suc zero) h = refl
single-not (suc (suc p)) h = absurd (omega arith)

module _ (x y b : ℕ) where
  pub and-bit : bit_at (bit_and x y) b ≡ (bit_at x b && bit_at y b)
  unfolding bit_at
  and-bit = rw (bit_at_and x y b) (single-and _ _ (bit_at-lt x b) (bit_at-lt y b))

  pub or-bit : bit_at (bit_or x y) b ≡ (bit_at x b || bit_at y b)
  unfolding bit_at
  or-bit = rw (bit_at_or x y b) (single-or _ _ (bit_at-lt x b) (bit_at-lt y b))

-- no bit of zero, each of a full word, and the one of a power
pub zero_bit : (b : ℕ) → bit_at 0 b ≡ false
unfolding bit_at
zero_bit b = rw (bit_at-zero b)

pub all-bit : (b : ℕ) → b < 64 → bit_at all_bits b ≡ true
unfolding bit_at
all-bit b h = eq-eqb _ 1 (bit_at_ones 64 b h)

pub power-bit : (m b : ℕ) → bit_at (2 ^ m) b ≡ eqb m b
unfolding bit_at
power-bit m b = by (eqb m b) refl
  where
    by : (t : Bool) → eqb m b ≡ t → eqb (2 ^ m / 2 ^ b % 2) 1 ≡ t
    by true e = let same = eqb-true m b e in rw same (eq-eqb _ 1 (bit_at-pow_same b))
    by false e = ne_eqb _ 1 (λ one. omega (arith, one, bit_at-pow_other m b (λ same. eqb-false m b e (sym same))))

pub not-bit : (x b : ℕ) → x < 18446744073709551616 → b < 64 → bit_at (bit_not w64 x) b ≡ not (bit_at x b)
unfolding bit_at
not-bit x b fits h = rw (bit_at_not w64 x b fits h) (single-not _ (bit_at-lt x b))

-- the lowest bit set of the m lowest, or m
pub lowest-set : (x m : ℕ) → x < 18446744073709551616 → m ≤ 64 → min (trailing_zeros w64 x) m ≡ first (bit_at x) m
unfolding bit_at count_trailing_zeros
lowest-set zero m fits h =
    let all : trailing_zeros w64 0 ≡ 64 = refl in
    let least : min (trailing_zeros w64 0) m ≡ m = omega (arith, all) in
    least ∙ sym (first-none _ m (λ k l. zero_bit k))
lowest-set (suc x) m fits h = pick (lt-or-le t m) inside past
  where
    t : ℕ
    t = trailing_zeros w64 (suc x)

    says : (t < 64) × (word.bit_at (suc x) t ≡ 1) × ((k : ℕ) → k < t → word.bit_at (suc x) k ≡ 0)
    says = bit_at-trailing_zeros w64 (suc x) (omega arith) fits

    none_below : (k : ℕ) → k < t → eqb (suc x / 2 ^ k % 2) 1 ≡ false
    none_below k l = ne_eqb _ 1 (λ e. omega (arith, e, says.2 k l))

    inside : t < m → min t m ≡ first (λ b. eqb (suc x / 2 ^ b % 2) 1) m
    inside l = let least : min t m ≡ t = omega arith in least ∙ sym (first_found _ m t none_below l (eq-eqb _ 1 says.1))

    past : m ≤ t → min t m ≡ first (λ b. eqb (suc x / 2 ^ b % 2) 1) m
    past l = let least : min t m ≡ m = omega arith in least ∙ sym (first-none _ m (λ k g. none_below k (omega arith)))
