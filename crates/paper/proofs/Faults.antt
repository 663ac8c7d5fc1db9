-- The reason with a number has that number, whichever it is: a number of no reason too.
use Prim.Native.Nat.{ℕ}
use mathlib.Core.Path.{◌≡◌, refl}
use mathlib.Core.Bool.{Bool, true, false, cond}
use mathlib.Core.List.{List, [], ◌∷◌}
use lib.Dec.{eqb}
use borrow.Author.Tests.{eqb-true}
use Rattle.paper.specs.declared.refusals.Fault.{Fault}
use Rattle.paper.specs.Refusals.{fault_number, fault_among, fault_of, faults}

among-number : (fs : List Fault) (n : ℕ) → fault_number (fault_among fs n) ≡ n
among-number [] n = refl
among-number (f ∷ fs) n = go (eqb (fault_number f) n) refl (among-number fs n)
  where
    go : (t : Bool) → eqb (fault_number f) n ≡ t → fault_number (fault_among fs n) ≡ n → fault_number (cond t f (fault_among fs n)) ≡ n
    go true e rest = eqb-true _ n e
    go false e rest = rest

pub number-comes-back : (n : ℕ) → fault_number (fault_of n) ≡ n
number-comes-back n = among-number faults n
