-- What is found spot after spot, where there is no star, where the index calls, and where it does not. How many spots are
-- allowed does not matter once they reach to the end (`enough`): each spot is nearer to the end than the one before it.
use Prim.Native.Nat.{ℕ, zero, suc, ◌-◌, ◌<◌, ◌≤◌}
use native.Mathlib.Omega.{arith}
use mathlib.Core.Path.{◌≡◌, refl, sym, subst, ap, ◌∙◌}
use mathlib.Core.Bool.{Bool, true, false}
use mathlib.Core.List.{List}
use lib.ListN.{length}
use borrow.Author.Tests.{eq-eqb, ne_eqb}
use Rattle.net.specs.declared.Net.{Net}
use Rattle.fingers.specs.declared.Moved.{Moved}
use Rattle.fingers.specs.Inside.Followable.{Followable}
use Rattle.fingers.specs.Inside.Spots.{stop_of, packed, ahead, calls, spot_after, sought_within, sought_from, IsSpot, After}
use Rattle.paper.proofs.Tests.{by, by-eq, by-lt}
use Rattle.fingers.proofs.GoesOn.{ahead-is, after-index, after_read, after-star}

module _ (rows reads chosen : List ℕ) where
  module _ (net : Net) (#N : ℕ) (ready : Followable rows reads chosen net #N) (s r k : ℕ) where
    abbrev AfterIt : ℕ × ℕ × ℕ → Type 0
    AfterIt p = After rows reads chosen #N s r k p.0 p.1 p.2

    -- there is a spot after each that has a star
    goes_on : IsSpot rows chosen #N s r k → 0 < s → AfterIt (spot_after rows reads chosen s r k)
    goes_on P h =
        by-lt k (length chosen) (λ l. exact _ (after-index rows reads chosen net #N ready s r k P h l))
        (λ l. by-lt r (stop_of rows s) (λ m. exact _ (after_read rows reads chosen net #N ready s r k P h l m))
        (λ m. exact _ (after-star rows reads chosen net #N ready s r k P h l m)))
      where
        exact : (p : ℕ × ℕ × ℕ) → AfterIt p → AfterIt (spot_after rows reads chosen s r k)
        exact p a = subst AfterIt a.exactly a

  module _ (o : ℕ → Bool) (j : ℕ) where
    abbrev within : ℕ → ℕ × ℕ × ℕ → Moved
    within = sought_within rows reads chosen o j

    abbrev from : ℕ → ℕ → ℕ → Moved
    from = sought_from rows reads chosen o j

    -- within so many spots
    within_none : (s r k : ℕ) → s ≡ 0 → (m : ℕ) → within m (s, r, k) ≡ record { finger = 0; index = length chosen }
    unfolding sought_within
    within_none s r k e zero = refl
    within_none s r k e (suc m) = rw (eq-eqb s 0 e)

    module _ (s r k : ℕ) (h : 0 < s) where
      some-ahead : 0 < ahead rows chosen s r k
      some-ahead = omega (arith, ahead-is rows reads chosen s r k h)

      within-here : (m : ℕ) → 0 < m → calls rows chosen o k j ≡ true → within m (s, r, k) ≡ record { finger = packed s r k; index = k }
      unfolding sought_within
      within-here zero l e = absurd (omega arith)
      within-here (suc m) l e = rw (ne_eqb s 0 (λ q. omega arith), e)

      within-next : (m : ℕ) → calls rows chosen o k j ≡ false → within (suc m) (s, r, k) ≡ within m (spot_after rows reads chosen s r k)
      unfolding sought_within
      within-next m e = rw (ne_eqb s 0 (λ q. omega arith), e)

      within-later : (m : ℕ) → 0 < m → calls rows chosen o k j ≡ false → within m (s, r, k) ≡ within (m - 1) (spot_after rows reads chosen s r k)
      within-later zero l e = absurd (omega arith)
      within-later (suc m) l e = let d : suc m - 1 ≡ m = omega arith in rw d (within-next m e)

    -- from a spot on
    pub found_none : (s r k : ℕ) → s ≡ 0 → from s r k ≡ record { finger = 0; index = length chosen }
    unfolding sought_from
    found_none s r k e = within_none s r k e (ahead rows chosen s r k)

    pub found_here : (s r k : ℕ) → 0 < s → calls rows chosen o k j ≡ true → from s r k ≡ record { finger = packed s r k; index = k }
    unfolding sought_from
    found_here s r k h e = within-here s r k h (ahead rows chosen s r k) (some-ahead s r k h) e

    module _ (net : Net) (#N : ℕ) (ready : Followable rows reads chosen net #N) where
      pub enough : (m n s r k : ℕ) → IsSpot rows chosen #N s r k → ahead rows chosen s r k ≤ m → ahead rows chosen s r k ≤ n
          → within m (s, r, k) ≡ within n (s, r, k)
      enough zero n s r k P a b =
          by-eq s 0 (λ e. within_none s r k e zero ∙ sym (within_none s r k e n)) (λ d. absurd (let z = some-ahead s r k (omega arith) in omega arith))
      enough (suc m) n s r k P a b =
          by-eq s 0 (λ e. within_none s r k e (suc m) ∙ sym (within_none s r k e n))
          (λ d. let h : 0 < s = omega arith in
          let z = some-ahead s r k h in
          by (calls rows chosen o k j) (λ e. within-here s r k h (suc m) (omega arith) e ∙ sym (within-here s r k h n (omega arith) e))
          (λ e. let q = spot_after rows reads chosen s r k in
          let next = goes_on net #N ready s r k P h in
          let less = next.less in
          within-next s r k h m e
          ∙ enough m (n - 1) q.0 q.1 q.2 next.spot (omega arith) (omega arith)
          ∙ sym (within-later s r k h n (omega arith) e)))

      pub found-later : (s r k s' r' k' : ℕ) → 0 < s → calls rows chosen o k j ≡ false → After rows reads chosen #N s r k s' r' k'
          → from s r k ≡ from s' r' k'
      unfolding sought_from
      found-later s r k s' r' k' h e a =
          let m = ahead rows chosen s r k - 1 in
          within-later s r k h (ahead rows chosen s r k) (some-ahead s r k h) e
          ∙ ap (within m) (sym a.exactly)
          ∙ enough m (ahead rows chosen s' r' k') s' r' k' a.spot (omega (arith, a.less)) (omega arith)
