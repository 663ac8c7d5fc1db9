-- Whether an index is before itself, star after star from its own outwards: what lies from the first read of a star on is
-- what the star reads, and what lies from the first read of the star around it on.
use Prim.Native.Nat.{ℕ, ◌+◌, ◌<◌, ◌≤◌}
use native.Mathlib.Omega.{arith}
use mathlib.Core.Path.{◌≡◌, refl, sym, ◌∙◌}
use mathlib.Core.Bool.{Bool, true, false, and-true}
use mathlib.Core.List.{List}
use lib.ListN.{length, get_or}
use borrow.Author.Tests.{eq-eqb}
use Rattle.paper.proofs.Bools.{not_so, same_answer}
use Rattle.rows.specs.Rows.{from_of}
use Rattle.rows.specs.Inside.Tree.{guard_of}
use Rattle.net.specs.Inside.Prior.{is_frozen, share_branch_in, variable_of, prior}
use Rattle.net.specs.declared.Net.{Net}
use Rattle.fingers.specs.Inside.Followable.{Followable}
use Rattle.fingers.specs.Inside.Spots.{stop_of, reads_any, IsSpot, pending, After}
use Rattle.paper.proofs.Tests.{by, by-lt, never}
use Rattle.fingers.proofs.Guards.{the-guard}
use Rattle.fingers.proofs.GoesOn.{Part, chained, read_later, read_around, parts, joins, some-star, stop-in, after-star, reads_none}
use Rattle.fingers.proofs.Seeking.{own_in, own-star, from_in, all_frozen}

-- an index is before itself where its own variable is frozen at it
prior-itself : (rows reads chosen : List ℕ) (j : ℕ) → prior rows reads chosen j j ≡ is_frozen rows reads (get_or chosen j 0) (variable_of rows chosen j)
unfolding prior share_branch_in
prior-itself rows reads chosen j =
    let l = get_or chosen j 0 in
    rw (eq-eqb l l refl) (and-true (is_frozen rows reads l (variable_of rows chosen j)))

-- the star around a star: a spot, before all that it reads
module _ (rows reads chosen : List ℕ) (net : Net) (#N : ℕ) (ready : Followable rows reads chosen net #N) (s : ℕ)
    (P : IsSpot rows chosen #N s (from_of rows s) (length chosen)) (h : 0 < s) where
  outer : After rows reads chosen #N s (stop_of rows s) (length chosen)
      (get_or net.guards s 0) (from_of rows (get_or net.guards s 0)) (length chosen)
  outer = after-star rows reads chosen net #N ready s (stop_of rows s) (length chosen)
      (record { star = P.star; kind = P.kind; read = λ _. let z = stop in omega (arith, ready.few); index = omega arith }) h (omega arith) (omega arith)
    where
      stop : stop_of rows s ≤ length reads
      stop = stop-in rows reads chosen net #N ready s (from_of rows s) (length chosen) P h

  pub outer-spot : IsSpot rows chosen #N (get_or net.guards s 0) (from_of rows (get_or net.guards s 0)) (length chosen)
  outer-spot = outer.spot

  pub outer-lower : get_or net.guards s 0 < s
  outer-lower =
      rw (ready.netted.guards.guards s P.star)
      (by-lt 0 (guard_of rows s) (λ o. (the-guard rows reads #N ready.choice.tree s P.star o).below) (λ z. omega arith))

module _ (rows reads chosen : List ℕ) (j : ℕ) where
  -- j lies from the first read of the star in row s on
  abbrev pub below : ℕ → Bool
  below s = pending rows reads chosen s (from_of rows s) (length chosen) j

  pub below_none : (s : ℕ) → s ≤ 0 → below s ≡ false
  below_none s h = not_so _ (λ e. let z = some-star rows reads chosen s (from_of rows s) (length chosen) j e in omega arith)

  module _ (net : Net) (#N : ℕ) (ready : Followable rows reads chosen net #N) (s : ℕ)
      (P : IsSpot rows chosen #N s (from_of rows s) (length chosen)) (h : 0 < s) where
    pub below-read : reads_any reads (from_of rows s) (stop_of rows s) (variable_of rows chosen j) ≡ true → below s ≡ true
    below-read e = joins rows reads chosen s (from_of rows s) (length chosen) j h (read_later e)

    pub below-outer : reads_any reads (from_of rows s) (stop_of rows s) (variable_of rows chosen j) ≡ false → j < length chosen
        → below (get_or net.guards s 0) ≡ below s
    below-outer e hj = same_answer _ _ (λ q. inner (parts rows reads chosen s (stop_of rows s) (length chosen) j (around-it.old j q)))
        (λ q. by (below (get_or net.guards s 0)) (λ t. t)
        (λ f. absurd (let z = (around-it.only j hj (past (parts rows reads chosen s (from_of rows s) (length chosen) j q)) f).0 in omega arith)))
      where
        around-it : After rows reads chosen #N s (stop_of rows s) (length chosen) (get_or net.guards s 0)
            (from_of rows (get_or net.guards s 0)) (length chosen)
        around-it = outer rows reads chosen net #N ready s P h

        inner : Part rows reads chosen s (stop_of rows s) (length chosen) j → below s ≡ true
        inner (chained a b c) = absurd (omega arith)
        inner (read_later a) = never _ a (reads_none reads (stop_of rows s) (stop_of rows s) (variable_of rows chosen j) (omega arith))
        inner (read_around a) = joins rows reads chosen s (from_of rows s) (length chosen) j h (read_around a)

        past : Part rows reads chosen s (from_of rows s) (length chosen) j → pending rows reads chosen s (stop_of rows s) (length chosen) j ≡ true
        past (chained a b c) = absurd (omega arith)
        past (read_later a) = never _ a e
        past (read_around a) = joins rows reads chosen s (stop_of rows s) (length chosen) j h (read_around a)

  -- the own star of j
  module _ (net : Net) (#N : ℕ) (ready : Followable rows reads chosen net #N) (hj : j < length chosen) where
    pub own-spot : IsSpot rows chosen #N (get_or chosen j 0 + 1) (from_of rows (get_or chosen j 0 + 1)) (length chosen)
    own-spot = record {
      star = own_in rows reads chosen #N net ready j hj;
      kind = λ _. own-star rows reads chosen #N net ready j hj;
      read = λ _. from_in rows reads chosen #N net ready j hj;
      index = omega arith;
    }

    pub below-own : below (get_or chosen j 0 + 1) ≡ prior rows reads chosen j j
    below-own = all_frozen rows reads chosen #N net ready j hj j ∙ sym (prior-itself rows reads chosen j)
