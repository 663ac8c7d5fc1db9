-- How the children of a join take part in a key, by their numbers of keys alone: what holds of the numbers still to come, that a
-- turn keeps it, and that a child that takes part does so in one of its own keys.
use Prim.Native.Nat.{ℕ, ◌*◌, ◌/◌, ◌<◌, ◌≤◌}
use native.Mathlib.Omega.{arith}
use native.Mathlib.Nat.{mul-le-mul_left, mul-le-mul_right, mod-lt, div-eq_of_eq-mul_right, div-lt_iff_lt-mul}
use mathlib.Core.Path.{◌≡◌, refl, ap}
use mathlib.Core.Bool.{Bool, true, false, not, false≢true}
use mathlib.Core.List.{List, ◌∷◌}
use lib.Dec.{eqb, ltb}
use borrow.Author.Tests.{ltb-true, ltb-false, eqb-false}
use Rattle.std.specs.Prelude.{Some, is_some}
use Rattle.std.specs.Option.{unwrap_or}
use Rattle.std.specs.Bool.{then_some}
use Rattle.paper.specs.Limits.{most_transitions}
use Rattle.keys.proofs.KeysUnder.{product_of, sum_of, AllWithin, factors-some}
use Rattle.transitions.specs.declared.Shares.{Shares}
use Rattle.transitions.specs.declared.Shares.TheVariants.{Each, All, One, Done}
use Rattle.transitions.specs.Inside.Kept.{CanTake, one_turn, turn_of}

-- children with these numbers of keys, still to come, can take part so
abbrev pub Fits : Shares → List ℕ → Type 0
Fits (Each k all) ns = (all ≡ product_of ns) × (k < all) × (all ≤ most_transitions)
Fits All ns = AllWithin most_transitions ns
Fits (One k) ns = (k < sum_of ns) × (sum_of ns ≤ most_transitions)
Fits Done ns = Unit {0}

-- the numbers of which the first is n, and the product of the others is p
pub record Divided (all n p : ℕ) : Type 0 where
  pub some : 0 < n
  pub others : 0 < p
  pub first_within : n ≤ all
  pub others_within : p ≤ all
  pub rest : all / n ≡ p

pub divided : {k all n p : ℕ} → all ≡ n * p → k < all → Divided all n p
divided {k} {all} {n} {p} e h =
    let (some, others) = factors-some n p (omega arith) in
    record {
      some = some;
      others = others;
      first_within = omega (arith, mul-le-mul_left n others);
      others_within = omega (arith, mul-le-mul_right p some);
      rest = div-eq_of_eq-mul_right some e;
    }

module _ (n : ℕ) (ns : List ℕ) where
  pub fits-take : (s : Shares) → Fits s (n ∷ ns) → CanTake s n
  fits-take (Each k all) f = let d = divided f.0 f.1 in (d.some, d.first_within)
  fits-take All f = tt
  fits-take (One k) f = tt
  fits-take Done f = tt

  one-next : (k : ℕ) (t : Bool) → ltb k n ≡ t → Fits (One k) (n ∷ ns) → Fits (one_turn t k n).next ns
  one-next k true e f = tt
  one-next k false e f = let h = ltb-false k n e in (omega arith, omega arith)

  pub fits_next : (s : Shares) → Fits s (n ∷ ns) → Fits (turn_of s n).next ns
  unfolding turn_of
  fits_next (Each k all) f = let d = divided f.0 f.1 in rw d.rest (refl, mod-lt k d.others, omega arith)
  fits_next All f = f.1
  fits_next (One k) f = one-next k (ltb k n) refl f
  fits_next Done f = tt

  -- the first key is a key of its own, where it has one
  first_on : {q : ℕ} → then_some (not (eqb n 0)) 0 ≡ Some q → q < n
  first_on {q} = go (eqb n 0) refl
    where
      go : (t : Bool) → eqb n 0 ≡ t → then_some (not t) 0 ≡ Some q → q < n
      go true e on = absurd (false≢true (ap is_some on))
      go false e on = let apart = eqb-false n 0 e in omega (arith, ap (λ o. unwrap_or o 0) on, apart)

  one_on : (k : ℕ) (t : Bool) → ltb k n ≡ t → Fits (One k) (n ∷ ns) → {q : ℕ} → (one_turn t k n).key ≡ Some q
      → (n ≤ most_transitions) × (q < n)
  one_on k true e f on = (omega arith, omega (arith, ap (λ o. unwrap_or o 0) on, ltb-true k n e))
  one_on k false e f on = absurd (false≢true (ap is_some on))

  pub fits_on : (s : Shares) → Fits s (n ∷ ns) → {q : ℕ} → (turn_of s n).key ≡ Some q → (n ≤ most_transitions) × (q < n)
  unfolding turn_of
  fits_on (Each k all) f {q} on =
      let d = divided f.0 f.1 in
      let e : k / product_of ns ≡ q = rw d.rest at (ap (λ o. unwrap_or o 0) on) in
      (omega arith, rw (← e) ((div-lt_iff_lt-mul d.others).1 (omega arith)))
  fits_on All f on = (f.0, first_on on)
  fits_on (One k) f on = one_on k (ltb k n) refl f on
  fits_on Done f on = absurd (false≢true (ap is_some on))
