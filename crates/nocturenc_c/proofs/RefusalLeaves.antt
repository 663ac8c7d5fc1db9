-- A refusal writes nothing: for each function of the archive that lends, whatever refusal its contract allows, every lent word or byte is
-- left as it was.
use Prim.Native.Nat.{ℕ}
use mathlib.Core.Path.{◌≡◌}
use mathlib.Core.List.{List}
use Rattle.paper.specs.Outcome.{RefusalLeaves}
use Rattle.filling.specs.Filling.{Outcome, refuses, fills}
use Rattle.nocturenc.specs.Packed.{IsPackedRefusal, FillsPacked}
use Rattle.nocturenc_c.proofs as exported

packed-as-it-was : (o : Outcome ℕ) {lent left : List ℕ} {n : ℕ} → FillsPacked o lent left n → IsPackedRefusal n → left ≡ lent
packed-as-it-was (refuses r) f h = f.left_so
packed-as-it-was (fills ws) f h = absurd (h f.read_so.no_refusal)

pub nocturenc-order :
    RefusalLeaves exported.nocturenc_order.Kinds.ps exported.nocturenc_order.Kinds.r (λ κs. IsPackedRefusal)
    (λ κs a. (tt, (a.1.0.now, tt)))
    exported.nocturenc_order.Reads.Pre exported.nocturenc_order.Reads.Post
nocturenc-order κs a pre x v p h = λ i. (tt, (packed-as-it-was _ p h i, tt))

pub nocturenc-transition :
    RefusalLeaves exported.nocturenc_transition.Kinds.ps exported.nocturenc_transition.Kinds.r (λ κs. IsPackedRefusal)
    (λ κs a. (tt, (tt, (a.1.1.0.now, tt))))
    exported.nocturenc_transition.Reads.Pre exported.nocturenc_transition.Reads.Post
nocturenc-transition κs a pre x v p h = λ i. (tt, (tt, (packed-as-it-was _ p h i, tt)))

pub nocturenc-assignments :
    RefusalLeaves exported.nocturenc_assignments.Kinds.ps exported.nocturenc_assignments.Kinds.r (λ κs. IsPackedRefusal)
    (λ κs a. (tt, (tt, (a.1.1.0.now, tt))))
    exported.nocturenc_assignments.Reads.Pre exported.nocturenc_assignments.Reads.Post
nocturenc-assignments κs a pre x v p h = λ i. (tt, (tt, (packed-as-it-was _ p h i, tt)))
