-- For each public function, any two outcomes that its contract allows are equal.
use Prim.Native.Nat.{ℕ, ◌<◌}
use native.Mathlib.Omega.{arith}
use mathlib.Core.Path.{◌≡◌, refl, sym, ◌∙◌}
use mathlib.Core.Bool.{Bool, true, false}
use mathlib.Core.List.{List}
use lib.Dec.{eqb}
use lib.ListN.{get_or}
use borrow.Author.Tests.{eqb-true, eqb-false}
use Rattle.paper.specs.declared.Label.{Label}
use Rattle.paper.specs.Outcome.{OneOutcome}
use Rattle.paper.proofs.Outcome.{by-equation, by_entries}
use Rattle.marks.specs.Marks.{is_marked}
use Rattle.marks.specs.Inside.Chosen.{MarkedExactly}
use Rattle.marks.proofs as marks

-- bytes that are 0 or 1 and say the same are the same
same_bit : (a b : ℕ) → a < 2 → b < 2 → eqb a 1 ≡ eqb b 1 → a ≡ b
same_bit a b low low' e = by (eqb b 1) refl
  where
    by : (t : Bool) → eqb b 1 ≡ t → a ≡ b
    by true t = let p = eqb-true a 1 (e ∙ t) in let q = eqb-true b 1 t in omega arith
    by false t = let p = eqb-false a 1 (e ∙ t) in let q = eqb-false b 1 t in omega arith

pub one-marking : (A : List Label) (xs ys : List ℕ) → MarkedExactly A xs → MarkedExactly A ys → xs ≡ ys
unfolding is_marked
one-marking A xs ys p q =
    let m = p.marked in
    let n = q.marked in
    let x = m.size in
    let y = n.size in
    by_entries xs ys (x ∙ sym y)
    (λ i h. same_bit (get_or xs i 0) (get_or ys i 0) (p.bits i h) (q.bits i (omega arith)) (m.marks_are i (omega arith) ∙ sym (n.marks_are i (omega arith))))

pub is-marked : OneOutcome marks.is_marked.Kinds.ps marks.is_marked.Kinds.r marks.is_marked.Reads.Pre marks.is_marked.Reads.Post
is-marked κs a pre x y v w p q = (by-equation p q, refl)

pub marks-of : OneOutcome marks.marks_of.Kinds.ps marks.marks_of.Kinds.r marks.marks_of.Reads.Pre marks.marks_of.Reads.Post
marks-of κs a pre x y v w p q = (one-marking _ x y p q, refl)
