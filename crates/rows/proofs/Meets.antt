-- Stepping by end words: children one after another, each at the end of the one before, that meet where their row ends.
use Prim.Native.Nat.{ℕ, zero, suc, ◌-◌, ◌<◌, ◌≤◌}
use native.Mathlib.Omega.{arith}
use native.Mathlib.Numerals.{sub-one}
use mathlib.Core.Path.{◌≡◌, refl, sym, ◌∙◌}
use mathlib.Core.Bool.{true, false, ◌&&◌, and-false}
use mathlib.Core.Logic.{◌⊎◌}
use mathlib.Core.List.{List}
use lib.Dec.{ltb, leb, eqb}
use Rattle.std.proofs.lemmas.Bool.{cases_lt}
use borrow.Author.Tests.{ltb-true, leb-true, eqb-true, lt-ltb, le-ltb, le-leb, lt-leb, eq-eqb}
use Rattle.paper.proofs.Bools.{and_left, and_right, pick}
use Rattle.rows.specs.Rows.{end_of, meets}

pub lt-or-le : (a b : ℕ) → (a < b) ⊎ (b ≤ a)
lt-or-le = cases_lt

module _ (rows : List ℕ) (stop : ℕ) where
  -- one more child, and no child
  pub meets-step : (at m : ℕ) → 0 < m
      → meets rows stop at m ≡ (ltb at stop && (ltb at (end_of rows at) && (leb (end_of rows at) stop && meets rows stop (end_of rows at) (m - 1))))
  unfolding meets
  meets-step at zero h = absurd (omega arith)
  meets-step at (suc m) h = rw (sub-one (suc m))

  pub meets-end : (at m : ℕ) → m ≡ 0 → meets rows stop at m ≡ eqb at stop
  unfolding meets
  meets-end at m e = rw e

  -- a child that begins at the stop or later, whose end does not rise, or whose end passes the stop
  module _ (at m : ℕ) (some : 0 < m) where
    pub meets-past : stop ≤ at → meets rows stop at m ≡ false
    meets-past h = meets-step at m some ∙ simp (le-ltb at stop h)

    pub meets-flat : end_of rows at ≤ at → meets rows stop at m ≡ false
    meets-flat h = meets-step at m some ∙ simp (le-ltb at (end_of rows at) h, and-false)

    pub meets-over : stop < end_of rows at → meets rows stop at m ≡ false
    meets-over h = meets-step at m some ∙ simp (lt-leb (end_of rows at) stop h, and-false)

    -- a child that does none of these leads to the next
    pub meets_on : at < stop → at < end_of rows at → end_of rows at ≤ stop → meets rows stop at m ≡ meets rows stop (end_of rows at) (m - 1)
    meets_on h k l = meets-step at m some ∙ simp (lt-ltb at stop h, lt-ltb at (end_of rows at) k, le-leb (end_of rows at) stop l)

  -- one child, and the others from its end on
  pub record Child (at m : ℕ) : Type 0 where
    pub before : at < stop
    pub rises : at < end_of rows at
    pub within : end_of rows at ≤ stop
    pub others : meets rows stop (end_of rows at) m ≡ true

  pub child : (at m : ℕ) → meets rows stop at (suc m) ≡ true → Child at m
  unfolding meets
  child at m e =
      let t = and_right (ltb at stop) _ e in
      let u = and_right (ltb at (end_of rows at)) _ t in
      record {
        before = ltb-true at stop (and_left (ltb at stop) _ e);
        rises = ltb-true at (end_of rows at) (and_left (ltb at (end_of rows at)) _ t);
        within = leb-true (end_of rows at) stop (and_left (leb (end_of rows at) stop) _ u);
        others = and_right (leb (end_of rows at) stop) _ u;
      }

  pub of-child : (at m : ℕ) {end : ℕ} → end_of rows at ≡ end → at < end → end ≤ stop → meets rows stop end m ≡ true → meets rows stop at (suc m) ≡ true
  of-child at m e b h others = meets_on at (suc m) (omega arith) (omega arith) (omega arith) (omega arith) ∙ rw (sub-one (suc m), e) others

  pub no-child : (at : ℕ) → meets rows stop at 0 ≡ true → at ≡ stop
  no-child at e = eqb-true at stop (sym (meets-end at 0 refl) ∙ e)

  pub of-no-child : (at : ℕ) → at ≡ stop → meets rows stop at 0 ≡ true
  of-no-child at e = meets-end at 0 refl ∙ eq-eqb at stop e

  pub meets-le : (m at : ℕ) → meets rows stop at m ≡ true → at ≤ stop
  meets-le zero at e = let z = no-child at e in omega arith
  meets-le (suc m) at e = let c = child at m e in omega arith

  -- the child in whose subtree row j lies
  pub record Holder (at j : ℕ) : Type 0 where
    pub holder : ℕ
    pub from : at ≤ holder
    pub not_after : holder ≤ j
    pub holds : j < end_of rows holder
    pub inside : end_of rows holder ≤ stop

  pub holder-of : (m at j : ℕ) → meets rows stop at m ≡ true → at ≤ j → j < stop → Holder at j
  holder-of zero at j e from below = let z = no-child at e in absurd (omega arith)
  holder-of (suc m) at j e from below =
      pick (lt-or-le j (end_of rows at)) here (λ after. further after (holder-of m (end_of rows at) j (child at m e).others after below))
    where
      here : j < end_of rows at → Holder at j
      here holds = record { holder = at; from = omega arith; not_after = from; holds = holds; inside = (child at m e).within }

      further : end_of rows at ≤ j → Holder (end_of rows at) j → Holder at j
      further after h =
          let c = child at m e in
          record { holder = h.holder; from = omega arith; not_after = h.not_after; holds = h.holds; inside = h.inside }
