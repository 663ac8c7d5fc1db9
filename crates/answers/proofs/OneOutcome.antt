-- For each public function, any two outcomes that its contract allows are equal: the answer, and every lent word or byte afterwards.
use Prim.Native.Nat.{ℕ}
use mathlib.Core.Path.{◌≡◌, refl}
use mathlib.Core.HLevel.{is_prop→PathP}
use mathlib.Core.List.{List}
use Rattle.std.proofs.Props.{props}
use Rattle.paper.specs.Outcome.{OneOutcome}
use Rattle.paper.proofs.Outcome.{by-equation}
use Rattle.table.specs.declared.Layout.{Layout}
use Rattle.marks.proofs.OneOutcome.{one-marking}
use Rattle.keys.specs.declared.Distinct.{Distinct}
use Rattle.answers.specs.declared.numbered.Basis.{Basis}
use Rattle.answers.specs.Inside.Judged.{Based}
use Rattle.answers.proofs.CountsFromAccepted as counts
use Rattle.answers.proofs.judged.AcceptedTable as table
use Rattle.answers.proofs.numbered.Basis as basis

pub countsfromaccepted-from : OneOutcome counts.from.Kinds.ps counts.from.Kinds.r counts.from.Reads.Pre counts.from.Reads.Post
countsfromaccepted-from κs a pre x y v w p q = (by-equation p q, refl)

pub acceptedtable-transition-of :
    OneOutcome table.transition_of.Kinds.ps table.transition_of.Kinds.r table.transition_of.Reads.Pre table.transition_of.Reads.Post
acceptedtable-transition-of κs a pre x y v w p q = (by-equation p.answered q.answered, λ i. (tt, (tt, (by-equation p.left_so q.left_so i, tt))))

pub acceptedtable-assignments-of :
    OneOutcome table.assignments_of.Kinds.ps table.assignments_of.Kinds.r table.assignments_of.Reads.Pre table.assignments_of.Reads.Post
acceptedtable-assignments-of κs a pre x y v w p q = (by-equation p.answered q.answered, λ i. (tt, (tt, (tt, (by-equation p.left_so q.left_so i, tt)))))

-- what a basis keeps of its table has one proof at most
based-prop : (words : List ℕ) (l : Layout) (marks : List ℕ) (own : Distinct) → IsProp (Based words l marks own)
based-prop words l marks own = hlevel props

-- of the same table the same marks and the same keys
same-basis : {r s : Basis} → r.table ≡ s.table → r.marks ≡ s.marks → r.own ≡ s.own → r ≡ s
same-basis {r} {s} t m n = λ i. record {
  table = t i;
  marks = m i;
  own = n i;
  based = is_prop→PathP (λ j. Based (t j).words.now (t j).accepted.layout (m j) (n j))
      (λ j. based-prop (t j).words.now (t j).accepted.layout (m j) (n j)) r.based s.based i;
}

pub acceptedtable-basis : OneOutcome table.basis.Kinds.ps table.basis.Kinds.r table.basis.Reads.Pre table.basis.Reads.Post
acceptedtable-basis κs a pre x y v w p q =
    let m = one-marking _ x.marks y.marks p.1.marked q.1.marked in
    (same-basis (by-equation p.0 q.0) m (by-equation p.1.own_are (rw m q.1.own_are)), refl)

pub basis-put-kept : OneOutcome basis.put_kept.Kinds.ps basis.put_kept.Kinds.r basis.put_kept.Reads.Pre basis.put_kept.Reads.Post
basis-put-kept κs a pre x y v w p q = (refl, λ i. (tt, (tt, (by-equation p q i, tt))))

pub basis-put-assigned : OneOutcome basis.put_assigned.Kinds.ps basis.put_assigned.Kinds.r basis.put_assigned.Reads.Pre basis.put_assigned.Reads.Post
basis-put-assigned κs a pre x y v w p q = (
  by-equation p.many q.many,
  λ i. (tt, (tt, (tt, (by-equation p.bytes q.bytes i, (by-equation p.in_order q.in_order i, tt))))),
)
