-- Kept labels as words: the words whose byte is 1 are the labels that pass the test, and an order of the chosen labels has as many
-- of them as the chosen labels have.
use Prim.Native.Nat.{ℕ, suc, ◌<◌, ◌≤◌}
use native.Mathlib.Omega.{arith}
use mathlib.Core.Path.{◌≡◌, refl, sym, ap, subst, ◌∙◌}
use mathlib.Core.Bool.{Bool, true, false, cond, not, true≢false}
use mathlib.Core.List.{List, [], ◌∷◌, map}
use lib.Dec.{eqb}
use lib.ListN.{length}
use Rattle.paper.specs.declared.Label.{Label}
use Rattle.paper.specs.Lists.{those}
use Rattle.paper.specs.Formula.{ℓ, same, has, Rising}
use Rattle.paper.specs.Order.{Once, OrderOf}
use Rattle.paper.proofs.Bools.{or_right, not_so}
use Rattle.paper.proofs.Lists.{those-lt}
use Rattle.paper.proofs.Labels.{same_refl, same-eq, has-mem, has-head, has-those, those-has, rising-above}
use Rattle.marks.specs.Marks.{is_marked}
use Rattle.marks.specs.Inside.Chosen.{AllBelow}
use Rattle.transitions.specs.Inside.Kept.{bytes_of}
use Rattle.transitions.specs.Inside.Assigned.{kept_of}
use Rattle.transitions.proofs.MarkedBytes.{bytes-at}

-- words below n, whose bytes are those of a test of labels
module _ (p : Label → Bool) (n : ℕ) where
  byte-says : (l : ℕ) → l < n → is_marked (bytes_of p n) l ≡ p (ℓ l)
  unfolding is_marked
  byte-says l h = ap (λ b. eqb b 1) (bytes-at p n l h) ∙ go (p (ℓ l))
    where
      go : (t : Bool) → eqb (cond t 1 0) 1 ≡ t
      go true = refl
      go false = refl

  pub kept-labels : (ws : List ℕ) → AllBelow n ws → map ℓ (kept_of (bytes_of p n) ws) ≡ those p (map ℓ ws)
  kept-labels [] below = refl
  kept-labels (w ∷ ws) below = rw (byte-says w (below 0 (omega arith))) (go (p (ℓ w)) (kept-labels ws (λ k h. below (suc k) (omega arith))))
    where
      go : (t : Bool) → map ℓ (kept_of (bytes_of p n) ws) ≡ those p (map ℓ ws)
          → map ℓ (cond t (w ∷ kept_of (bytes_of p n) ws) (kept_of (bytes_of p n) ws)) ≡ cond t (ℓ w ∷ those p (map ℓ ws)) (those p (map ℓ ws))
      go true e = ap (λ ls. ℓ w ∷ ls) e
      go false e = e

-- labels that come once each are no more than those they are among
no_member : (xs : List Label) (l : Label) → has xs l ≡ false → has xs l ≡ true → ⊥
no_member xs l e h = true≢false (sym h ∙ e)

once-le : (xs ys : List Label) → Once xs → ((l : Label) → has xs l ≡ true → has ys l ≡ true) → length xs ≤ length ys
once-le [] ys o part = omega arith
once-le (x ∷ xs) ys o part = omega (arith, once-le xs (those other ys) o.1 among, fewer)
  where
    other : Label → Bool
    other l = not (same l x)

    among : (l : Label) → has xs l ≡ true → has (those other ys) l ≡ true
    among l h =
        let apart = not_so (same l x) (λ e. no_member xs x o.0 (subst (λ i. has xs i ≡ true) (same-eq l x e) h)) in
        has-those other ys l (part l (or_right (same l x) (has xs l) h)) (rw apart)

    fewer : length (those other ys) < length ys
    fewer = those-lt other ys x (has-mem ys x (part x (has-head x xs))) (rw (same_refl x))

rising-once : (p : ℕ) (xs : List Label) → Rising p xs → Once xs
rising-once p [] r = tt
rising-once p (x ∷ xs) r = (not_so (has xs x) (λ h. absurd (omega (arith, rising-above xs x r.1 h))), rising-once (suc x.0) xs r.1)

once-those : (p : Label → Bool) (xs : List Label) → Once xs → Once (those p xs)
once-those p [] o = tt
once-those p (x ∷ xs) o = go (p x) (once-those p xs o.1)
  where
    go : (t : Bool) → Once (those p xs) → Once (cond t (x ∷ those p xs) (those p xs))
    go true u = (not_so (has (those p xs) x) (λ h. no_member xs x o.0 (those-has p xs x h).0), u)
    go false u = u

-- labels in an order are as many as they are
pub as-many-ordered : (R : Label → Label → Bool) (p : Label → Bool) {A o : List Label} → Rising 0 A → OrderOf R A o → length (those p o) ≡ length (those p A)
as-many-ordered R p {A} {o} rises order =
    omega (
      arith,
      once-le (those p o) (those p A) (once-those p o order.once) (moved o A order.from),
      once-le (those p A) (those p o) (once-those p A (rising-once 0 A rises)) (moved A o order.onto),
    )
  where
    moved : (xs ys : List Label) → ((l : Label) → has xs l ≡ true → has ys l ≡ true) → (l : Label) → has (those p xs) l ≡ true → has (those p ys) l ≡ true
    moved xs ys part l h = let (t, e) = those-has p xs l h in has-those p ys l (part l t) e
