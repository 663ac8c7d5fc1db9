-- What a look at an index gives: labels known to share no branch with that of j answer for themselves, others are asked.
use Prim.Native.Nat.{ℕ, ◌<◌, ◌≤◌}
use native.Mathlib.Omega.{arith}
use mathlib.Core.Path.{◌≡◌, refl, sym, ◌∙◌}
use mathlib.Core.Bool.{Bool, true, false, ◌&&◌}
use mathlib.Core.List.{List}
use lib.Dec.{eqb, ltb}
use lib.ListN.{length, get_or}
use borrow.Author.Tests.{eq-eqb, ne_eqb, lt-ltb, le-ltb}
use Rattle.net.specs.Inside.Prior.{share_branch_in}
use Rattle.net.specs.Inside.Net.{Cleared}
use Rattle.fingers.specs.Inside.Spots.{calls, Apart, Looked}
use Rattle.paper.proofs.Tests.{by-eq}

module _ (rows chosen : List ℕ) (j : ℕ) where
  pub look_known : (k from to : ℕ) → Apart rows chosen j from to → from ≤ get_or chosen k 0 → get_or chosen k 0 < to
      → Looked rows chosen (share_branch_in rows (get_or chosen k 0) (get_or chosen j 0)) j from to false
  look_known k from to a l h = record { says = sym (a (get_or chosen k 0) l h); apart = a }

  pub look-asked : (k r : ℕ) → Cleared rows (get_or chosen k 0) (get_or chosen j 0) r
      → Looked rows chosen (share_branch_in rows (get_or chosen k 0) (get_or chosen j 0)) j (get_or chosen k 0) r (eqb r (get_or chosen k 0))
  look-asked k r c = record {
    says = by-eq r (get_or chosen k 0) (λ e. eq-eqb _ _ e ∙ sym (c.shared e))
        (λ d. ne_eqb _ _ d ∙ sym (c.apart (get_or chosen k 0) (omega arith) (let z = c.from in omega arith)));
    apart = c.apart;
  }

  module _ (o : ℕ → Bool) (k from to : ℕ) where
    pub look-open : (hit : Bool) → k < length chosen → o k ≡ true
        → Looked rows chosen (share_branch_in rows (get_or chosen k 0) (get_or chosen j 0)) j from to hit
        → Looked rows chosen (calls rows chosen o k j) j from to hit
    unfolding calls
    look-open hit h e w = record { says = rw (lt-ltb k (length chosen) h, e) w.says; apart = w.apart }

    pub look-shut : o k ≡ false → Apart rows chosen j from to → Looked rows chosen (calls rows chosen o k j) j from to false
    unfolding calls
    look-shut e a = record { says = rw e (none (ltb k (length chosen))); apart = a }
      where
        none : (t : Bool) → false ≡ (t && false)
        none true = refl
        none false = refl

    pub look-past : length chosen ≤ k → Apart rows chosen j from to → Looked rows chosen (calls rows chosen o k j) j from to false
    unfolding calls
    look-past h a = record { says = rw (le-ltb k (length chosen) h); apart = a }
