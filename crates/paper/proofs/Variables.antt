-- The list of the variables 0 to n - 1: it holds exactly the variables below n, each once.
use Prim.Native.Nat.{ℕ, zero, suc, ◌+◌, ◌<◌, ◌≤◌}
use native.Mathlib.Omega.{arith}
use mathlib.Core.Path.{◌≡◌, refl, ap, ◌∙◌}
use mathlib.Core.Bool.{Bool, true, false, cond}
use mathlib.Core.List.Memᴰ
use mathlib.Core.List.{[], ◌∷◌, ◌++◌, Memᴰ}
use lib.Dec.{eqb}
use lib.ListN.{length, length-append}
use borrow.Author.Tests.{eqb-true, eqb-false}
use Rattle.paper.specs.Lists.{how_many}
use Rattle.paper.specs.Formula.{Variable, 𝓋, alike}
use Rattle.paper.specs.Judgement.{variables}
use Rattle.paper.proofs.Bools.{pick}
use Rattle.paper.proofs.Lists.{how_many-append}

pub in-variables : (n : ℕ) (v : Variable) → Memᴰ v (variables n) → v.0 < n
in-variables zero v t = absurd (Memᴰ.not-nil t)
in-variables (suc n) v t =
    pick (Memᴰ.append_cases (variables n) t) (λ s. let h = in-variables n v s in omega arith)
    (λ s. let e = ap (λ (w : Variable). w.0) (Memᴰ.eq_of_singleton s) in omega arith)

pub to-variables : (n : ℕ) (v : Variable) → v.0 < n → Memᴰ v (variables n)
to-variables zero v h = absurd (omega arith)
to-variables (suc n) v h = go (eqb v.0 n) refl (to-variables n v)
  where
    go : (t : Bool) → eqb v.0 n ≡ t → (v.0 < n → Memᴰ v (variables n)) → Memᴰ v (variables n ++ (𝓋 n ∷ []))
    go true e r = Memᴰ.append_right (variables n) (Memᴰ.head (ap 𝓋 (eqb-true v.0 n e)))
    go false e r = Memᴰ.append_left (𝓋 n ∷ []) (r (let q = eqb-false v.0 n e in omega arith))

pub length-variables : (n : ℕ) → length (variables n) ≡ n
length-variables zero = refl
length-variables (suc n) = length-append (variables n) (𝓋 n ∷ []) ∙ (let e = length-variables n in omega arith)

-- a variable is among the first n once if it is below n, and else not at all
pub variable-none : (n : ℕ) (w : Variable) → n ≤ w.0 → how_many (λ v. alike v w) (variables n) ≡ 0
variable-none zero w h = refl
variable-none (suc n) w h = how_many-append (λ v. alike v w) (variables n) (𝓋 n ∷ []) ∙ go (eqb n w.0) (eqb-true n w.0) (variable-none n w (omega arith))
  where
    go : (t : Bool) → (t ≡ true → n ≡ w.0) → how_many (λ v. alike v w) (variables n) ≡ 0 → how_many (λ v. alike v w) (variables n) + cond t 1 0 ≡ 0
    go true q e = let z = q refl in absurd (omega arith)
    go false q e = omega arith

pub variable-one : (n : ℕ) (w : Variable) → w.0 < n → how_many (λ v. alike v w) (variables n) ≡ 1
variable-one zero w h = absurd (omega arith)
variable-one (suc n) w h = how_many-append (λ v. alike v w) (variables n) (𝓋 n ∷ []) ∙ go (eqb n w.0) refl (variable-one n w)
  where
    go : (t : Bool) → eqb n w.0 ≡ t → (w.0 < n → how_many (λ v. alike v w) (variables n) ≡ 1) → how_many (λ v. alike v w) (variables n) + cond t 1 0 ≡ 1
    go true q r = let z = variable-none n w (let y = eqb-true n w.0 q in omega arith) in omega arith
    go false q r = let z = r (let y = eqb-false n w.0 q in omega arith) in omega arith
