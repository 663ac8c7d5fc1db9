-- For each public function, any two outcomes that its contract allows are equal: the answer, or every lent finger.
use Prim.Native.Nat.{ℕ}
use mathlib.Core.Path.{◌≡◌, refl, sym, ◌∙◌}
use mathlib.Core.List.{List}
use lib.ListN.{length}
use Rattle.paper.specs.Outcome.{OneOutcome}
use Rattle.paper.proofs.Outcome.{by-equation, by_entries}
use Rattle.fingers.specs.Inside.Spots.{AtStart}
use Rattle.paper.proofs.Tests.{by-lt}
use Rattle.fingers.proofs as fingers

one-start : (rows chosen old xs ys : List ℕ) → AtStart rows chosen (length chosen) old xs → AtStart rows chosen (length chosen) old ys → xs ≡ ys
one-start rows chosen old xs ys p q =
    by_entries xs ys (p.size ∙ sym q.size) (λ i h. by-lt i (length chosen)
    (λ l. p.starts i l ∙ sym (q.starts i l))
    (λ l. p.others i l ∙ sym (q.others i l)))

pub stop-of : OneOutcome fingers.stop_of.Kinds.ps fingers.stop_of.Kinds.r fingers.stop_of.Reads.Pre fingers.stop_of.Reads.Post
stop-of κs a pre x y v w p q = (by-equation p q, refl)

pub following-seek :
    OneOutcome fingers.Following.seek.Kinds.ps fingers.Following.seek.Kinds.r fingers.Following.seek.Reads.Pre fingers.Following.seek.Reads.Post
following-seek κs a pre x y v w p q = (by-equation p.exactly q.exactly, refl)

pub start : OneOutcome fingers.start.Kinds.ps fingers.start.Kinds.r fingers.start.Reads.Pre fingers.start.Reads.Post
start κs a pre x y v w p q = (refl, λ i. (tt, (one-start _ _ _ _ _ p q i, tt)))
