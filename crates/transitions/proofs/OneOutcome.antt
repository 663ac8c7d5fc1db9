-- For each public function, any two outcomes that its contract allows are equal: the answer, and every lent word or byte. The
-- promises of `keep` and `mark_kept` speak of every strategy whose marks these are; there is one, that of the labels marked.
use Prim.Native.Nat.{ℕ, zero, suc, ◌<◌, ◌≤◌, ◌+◌}
use native.Mathlib.Omega.{arith}
use mathlib.Core.Path.{◌≡◌, refl}
use mathlib.Core.Bool.{Bool, true}
use mathlib.Core.List.{List, []}
use lib.Dec.{eqb}
use lib.ListN.{length}
use borrow.Author.Tests.{eq-eqb}
use Rattle.paper.specs.Limits.{most_rows}
use Rattle.paper.specs.declared.Label.{Label}
use Rattle.paper.specs.Lists.{those}
use Rattle.paper.specs.Outcome.{OneOutcome}
use Rattle.paper.specs.Formula.{ℓ, has}
use Rattle.paper.proofs.Bools.{or_left, or_right, same_answer, pick}
use Rattle.paper.proofs.Outcome.{by-equation}
use Rattle.paper.proofs.Labels.{has-those, those-has}
use Rattle.written.specs.Written.{labels_on}
use Rattle.rows.proofs.Meets.{lt-or-le}
use Rattle.marks.specs.Marks.{is_marked}
use Rattle.marks.specs.Inside.Chosen.{Marked}
use Rattle.transitions.proofs.kept as kept
use Rattle.transitions.proofs.assigned as assigned

has-labels : (n i l : ℕ) → i ≤ l → l < i + n → has (labels_on i n) (ℓ l) ≡ true
has-labels zero i l from below = absurd (omega arith)
has-labels (suc n) i l from below = pick (lt-or-le i l)
    (λ later. or_right (eqb l i) (has (labels_on (suc i) n) (ℓ l)) (has-labels n (suc i) l later (omega arith)))
    (λ same. or_left (eqb l i) (has (labels_on (suc i) n) (ℓ l)) (eq-eqb l i (omega arith)))

-- the labels marked
chosen_by : List ℕ → List Label
chosen_by marks = those (λ l. is_marked marks l.0) (labels_on 0 most_rows)

chosen-marked : (marks : List ℕ) → length marks ≡ most_rows → Marked (chosen_by marks) marks
unfolding chosen_by
chosen-marked marks size = record { size = size; marks_are = are }
  where
    p : Label → Bool
    p l = is_marked marks l.0

    are : (l : ℕ) → l < most_rows → is_marked marks l ≡ has (those p (labels_on 0 most_rows)) (ℓ l)
    are l h =
        same_answer (p (ℓ l)) (has (those p (labels_on 0 most_rows)) (ℓ l))
        (has-those p (labels_on 0 most_rows) (ℓ l) (has-labels most_rows 0 l (omega arith) (omega arith)))
        (λ t. (those-has p (labels_on 0 most_rows) (ℓ l) t).1)

-- what is said of every strategy whose marks these are is said of the labels marked
of-marks : {A : Type 0} {marks : List ℕ} → length marks ≡ most_rows → (value : List Label → List ℕ → A) {left other : A}
    → ((A : List Label) → Marked A marks → (reads : List ℕ) → left ≡ value A reads)
    → ((A : List Label) → Marked A marks → (reads : List ℕ) → other ≡ value A reads) → left ≡ other
of-marks {marks = marks} size value p q = let m = chosen-marked marks size in by-equation (p (chosen_by marks) m []) (q (chosen_by marks) m [])

pub keep : OneOutcome kept.keep.Kinds.ps kept.keep.Kinds.r kept.keep.Reads.Pre kept.keep.Reads.Post
keep κs a pre x y v w p q = (refl, λ i. (tt, (tt, (tt, (tt, (tt, (of-marks pre.size _ p.bytes_are q.bytes_are i, tt)))))))

pub mark-kept : OneOutcome kept.mark_kept.Kinds.ps kept.mark_kept.Kinds.r kept.mark_kept.Reads.Pre kept.mark_kept.Reads.Post
mark-kept κs a pre x y v w p q = (refl, λ i. (tt, (tt, (tt, (of-marks pre.size _ p.bytes_are q.bytes_are i, tt)))))

pub count_kept : OneOutcome assigned.count_kept.Kinds.ps assigned.count_kept.Kinds.r assigned.count_kept.Reads.Pre assigned.count_kept.Reads.Post
count_kept κs a pre x y v w p q = (by-equation p q, refl)

pub fill-assigned :
    OneOutcome assigned.fill_assigned.Kinds.ps assigned.fill_assigned.Kinds.r assigned.fill_assigned.Reads.Pre assigned.fill_assigned.Reads.Post
fill-assigned κs a pre x y v w p q =
    let e = by-equation p.0 q.0 in
    let left : v.1.1.1.0 ≡ w.1.1.1.0 = cc (e, p.1, q.1) in
    (e, λ i. (tt, (tt, (tt, (left i, tt)))))
