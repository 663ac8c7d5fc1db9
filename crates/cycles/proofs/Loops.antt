-- What the loops over the path keep, and what is looked for in the reads.
use Prim.Native.Nat.{ℕ, ◌+◌, ◌-◌, ◌<◌, ◌≤◌, min}
use native.Mathlib.Omega.{arith}
use mathlib.Core.Path.{◌≡◌, refl, sym, subst, ap, ◌∙◌}
use mathlib.Core.Bool.{◌||◌}
use mathlib.Core.List.{List, [], ◌∷◌}
use lib.Dec.{eqb}
use lib.ListN.{length, get_or, set, length-set}
use lib.Seq.{get_or-set_other}
use borrow.Author.Tests.{eq-eqb, ne_eqb}
use Rattle.std.specs.List.{list_any}
use Rattle.paper.specs.Lists.{any_of}
use Rattle.cycles.specs.Inside.Path.{Finished, Settled}
use Rattle.paper.proofs.Tests.{by-eq, at_set}

pub finish-none : (mark stack : List ℕ) (from : ℕ) → Finished mark stack from from mark
finish-none mark stack from = record { size = refl; hit = λ p h u. absurd (omega arith); miss = λ i d. refl }

pub finish-more : (mark₀ mark stack : List ℕ) (from p : ℕ) → get_or stack p 0 < length mark → from ≤ p → Finished mark₀ stack from p mark
    → Finished mark₀ stack from (p + 1) (set mark (get_or stack p 0) 1)
finish-more mark₀ mark stack from p h u w = record {
  size = length-set mark (get_or stack p 0) 1 ∙ w.size;
  hit = λ q hq lq. at_set mark (get_or stack p 0) 1 h (λ z. z ≡ 1) (get_or stack q 0) (λ _. refl)
      (λ d. by-eq q p (λ e. absurd (d (ap (λ (z : ℕ). get_or stack z 0) e))) (λ n. w.hit q (omega arith) lq));
  miss = λ i d. get_or-set_other mark (get_or stack p 0) i 1 0 (d p (omega arith) u) ∙ w.miss i (λ q hq lq. d q (omega arith) lq);
}

pub settle-none : (stack : List ℕ) (from best : ℕ) → Settled stack from from best best
settle-none stack from best = record { not_above = omega arith; all = λ p h u. absurd (omega arith); one = λ d. absurd (d refl) }

pub settle-more : (stack : List ℕ) (from p n best r s : ℕ) → n ≡ p + 1 → from ≤ p → s ≡ min r (get_or stack p 0)
    → Settled stack from p best r → Settled stack from n best s
settle-more stack from p n best r s m u l w = record {
  not_above = omega (arith, l, w.not_above);
  all = λ q hq lq. by-eq q p (λ e. omega (arith, l, ap (λ (z : ℕ). get_or stack z 0) e)) (λ d. omega (arith, l, w.all q (omega (arith, m)) lq));
  one = λ d. by-eq s r (λ e. let o = w.one (λ q. d (e ∙ q)) in (o.0, omega (arith, m, o.1), o.2, e ∙ o.3)) (λ e. (p, omega (arith, m), u, omega arith));
}

-- t segments are left so far
abbrev pub Merging : List ℕ → ℕ → ℕ → ℕ → Type 0
Merging bound top p t = (0 < t) × (t ≤ top) × ((k : ℕ) → k < top → t ≤ k → p < get_or bound k 0)

pub merged-more : (bound : List ℕ) (top p t : ℕ) → get_or bound 0 0 ≡ 0 → p < get_or bound (t - 1) 0 → Merging bound top p t → Merging bound top p (t - 1)
merged-more bound top p t first l w = (
  by-eq t 1 (λ e. absurd (let z : t - 1 ≡ 0 = omega arith in omega (arith, ap (λ (z : ℕ). get_or bound z 0) z))) (λ d. omega (arith, w.0)),
  omega (arith, w.1),
  λ k hk tk. by-eq k (t - 1) (λ e. subst (λ z. p < get_or bound z 0) (sym e) l) (λ d. w.2 k hk (omega arith)),
)

-- some number of a list is v, the two compared in either order
pub some-is : (v : ℕ) (xs : List ℕ) → list_any (λ y. eqb y v) xs ≡ any_of (eqb v) xs
some-is v [] = refl
some-is v (x ∷ xs) = ap (λ t. t || list_any (λ y. eqb y v) xs) either ∙ ap (λ t. eqb v x || t) (some-is v xs)
  where
    either : eqb x v ≡ eqb v x
    either = by-eq x v (λ e. eq-eqb x v e ∙ sym (eq-eqb v x (sym e))) (λ d. ne_eqb x v d ∙ sym (ne_eqb v x (λ e. d (sym e))))
