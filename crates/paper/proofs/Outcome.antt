-- Two that are one value are equal, and so are two lists of one length with the same entries.
use Prim.Native.Nat.{ℕ, zero, suc, ◌<◌}
use native.Mathlib.Omega.{arith}
use mathlib.Core.Path.{◌≡◌, refl, sym, subst, ap, ◌∙◌}
use mathlib.Core.List.{List, [], ◌∷◌}
use lib.ListN.{length, get_or}

pub by-equation : {A : Type 0} {value r s : A} → r ≡ value → s ≡ value → r ≡ s
by-equation p q = p ∙ sym q

pub by_entries : (xs ys : List ℕ) → length xs ≡ length ys → ((i : ℕ) → i < length xs → get_or xs i 0 ≡ get_or ys i 0) → xs ≡ ys
by_entries [] [] e same = refl
by_entries [] (y ∷ ys) e same = absurd (omega arith)
by_entries (x ∷ xs) [] e same = absurd (omega arith)
by_entries (x ∷ xs) (y ∷ ys) e same =
    subst (λ z. x ∷ xs ≡ z ∷ ys) (same zero (omega arith)) (ap (λ zs. x ∷ zs) (by_entries xs ys (omega arith) (λ i h. same (suc i) (omega arith))))
