-- Numbers in decimal: a number below ten is its one digit, any other its tenth and one digit more, and a number below 10 ^ k has
-- at most k digits. By the steps that `digits` takes, of which more than enough make no difference.
use Prim.Native.Nat.{ℕ, zero, suc, ◌+◌, ◌/◌, ◌%◌, ◌^◌, ◌≤◌, ◌<◌}
use native.Mathlib.Nat.{pow-suc}
use native.Mathlib.Omega.{arith}
use mathlib.Core.Path.{◌≡◌, refl, sym, ap, ◌∙◌}
use mathlib.Core.Bool.{Bool, true, false}
use mathlib.Core.List.{List, [], ◌∷◌, ◌++◌, append_assoc}
use lib.Dec.{ltb}
use lib.ListN.{length, length-append}
use borrow.Author.Tests.{ltb-true, ltb-false, lt-ltb, le-ltb}
use Rattle.listing.specs.Text.{digits, decimal}

-- below m, or not
pub split : {C : Type 0} (n m : ℕ) → (n < m → C) → (m ≤ n → C) → C
split {C} n m below above = by (ltb n m) refl
  where
    by : (t : Bool) → ltb n m ≡ t → C
    by true e = below (ltb-true n m e)
    by false e = above (ltb-false n m e)

digits-small : (s n : ℕ) → n < 10 → digits s n ≡ (48 + n) ∷ []
unfolding digits
digits-small zero n h = refl
digits-small (suc s) n h = rw (lt-ltb n 10 h)

digits_more : (s n : ℕ) → 10 ≤ n → digits (suc s) n ≡ digits s (n / 10) ++ (48 + n % 10) ∷ []
unfolding digits
digits_more s n h = rw (le-ltb n 10 h)

-- the steps are enough
digits-steady : (s t n : ℕ) → n ≤ s → n ≤ t → digits s n ≡ digits t n
digits-steady zero t n hs ht = digits-small zero n (omega arith) ∙ sym (digits-small t n (omega arith))
digits-steady (suc s) zero n hs ht = digits-small (suc s) n (omega arith) ∙ sym (digits-small zero n (omega arith))
digits-steady (suc s) (suc t) n hs ht =
    split n 10
    (λ h. digits-small (suc s) n h ∙ sym (digits-small (suc t) n h))
    (λ h.
    digits_more s n h
    ∙ ap (λ (d : List ℕ). d ++ (48 + n % 10) ∷ []) (digits-steady s t (n / 10) (omega arith) (omega arith))
    ∙ sym (digits_more t n h))

pub decimal-small : (n : ℕ) → n < 10 → decimal n ≡ (48 + n) ∷ []
unfolding decimal
decimal-small n h = digits-small n n h

pub decimal-more : (n : ℕ) → 10 ≤ n → decimal n ≡ decimal (n / 10) ++ (48 + n % 10) ∷ []
unfolding decimal
decimal-more zero h = absurd (omega arith)
decimal-more (suc m) h =
    digits_more m (suc m) h
    ∙ ap (λ (d : List ℕ). d ++ (48 + suc m % 10) ∷ []) (digits-steady m (suc m / 10) (suc m / 10) (omega arith) (omega arith))

-- two digits, and the last two behind those of the hundredth
pub decimal-two : (n : ℕ) → 10 ≤ n → n < 100 → decimal n ≡ (48 + n / 10) ∷ (48 + n % 10) ∷ []
decimal-two n h k = decimal-more n h ∙ ap (λ (d : List ℕ). d ++ (48 + n % 10) ∷ []) (decimal-small (n / 10) (omega arith))

pub decimal-last_two : (n : ℕ) → 100 ≤ n → decimal n ≡ decimal (n / 100) ++ (48 + n % 100 / 10) ∷ (48 + n % 100 % 10) ∷ []
decimal-last_two n h =
    decimal-more n (omega arith)
    ∙ ap (λ (d : List ℕ). d ++ (48 + n % 10) ∷ [])
    (decimal-more (n / 10) (omega arith) ∙ ap (λ (m : ℕ). decimal m ++ (48 + n / 10 % 10) ∷ []) (omega arith))
    ∙ append_assoc (decimal (n / 100)) ((48 + n / 10 % 10) ∷ []) ((48 + n % 10) ∷ [])
    ∙ ap (λ (m : ℕ). decimal (n / 100) ++ (48 + m) ∷ (48 + n % 10) ∷ []) (omega arith)
    ∙ ap (λ (m : ℕ). decimal (n / 100) ++ (48 + n % 100 / 10) ∷ (48 + m) ∷ []) (omega arith)

pub length-small : (n : ℕ) → n < 10 → length (decimal n) ≡ 1
length-small n h = ap length (decimal-small n h)

pub length_more : (n : ℕ) → 10 ≤ n → length (decimal n) ≡ length (decimal (n / 10)) + 1
length_more n h = ap length (decimal-more n h) ∙ length-append (decimal (n / 10)) ((48 + n % 10) ∷ [])

pub length-two : (n : ℕ) → 10 ≤ n → n < 100 → length (decimal n) ≡ 2
length-two n h k = ap length (decimal-two n h k)

pub length-last_two : (n : ℕ) → 100 ≤ n → length (decimal n) ≡ length (decimal (n / 100)) + 2
length-last_two n h = ap length (decimal-last_two n h) ∙ length-append (decimal (n / 100)) ((48 + n % 100 / 10) ∷ (48 + n % 100 % 10) ∷ [])

pub some-digit : (n : ℕ) → 0 < length (decimal n)
some-digit n = split n 10 (λ h. omega (arith, length-small n h)) (λ h. omega (arith, length_more n h))

pub digits-at-most : (k n : ℕ) → n < 10 ^ suc k → length (decimal n) ≤ suc k
digits-at-most zero n h = omega (arith, length-small n h)
digits-at-most (suc k) n h =
    split n 10
    (λ small. omega (arith, length-small n small))
    (λ more. omega (arith, length_more n more, digits-at-most k (n / 10) (omega (arith, pow-suc 10 (suc k)))))

pub five_digits : (n : ℕ) → n < 65536 → length (decimal n) ≤ 5
five_digits n h = digits-at-most 4 n (omega arith)

pub ten_digits : (n : ℕ) → n < 2 ^ 32 → length (decimal n) ≤ 10
ten_digits n h = digits-at-most 9 n (omega arith)
