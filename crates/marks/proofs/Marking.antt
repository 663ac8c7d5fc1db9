-- The marks of chosen labels: none is marked before any label is, and a label more marks that one.
use Prim.Native.Nat.{ℕ, ◌+◌, ◌<◌}
use native.Mathlib.Omega.{arith}
use native.Mathlib.Numerals.{add-one}
use mathlib.Core.Path.{◌≡◌, refl, sym, ◌∙◌}
use mathlib.Core.Bool.{Bool, true, false, ◌||◌, or-false, or-true}
use mathlib.Core.List.{List, [], map, map-append}
use lib.Dec.{eqb}
use lib.ListN.{length, get_or, take, set, replicate, length-set, length-replicate, get_or-replicate}
use lib.Seq.{take-suc, get_or-set_same, get_or-set_other}
use borrow.Author.Tests.{eqb-true, eqb-false}
use Rattle.paper.specs.Limits.{most_rows}
use Rattle.paper.specs.Formula.{ℓ}
use Rattle.paper.proofs.Lists.{any_append}
use Rattle.marks.specs.Marks.{is_marked}
use Rattle.marks.specs.Inside.Chosen.{Marked, AllBelow}

pub marked-none : Marked [] (replicate most_rows 0)
unfolding is_marked
marked-none = record { size = length-replicate {A = ℕ} most_rows 0; marks_are = λ l h. rw (get_or-replicate {A = ℕ} most_rows l 0 0 h) }

-- a mark more, at label i
mark-more : (marks : List ℕ) (i l : ℕ) → i < length marks → is_marked (set marks i 1) l ≡ (is_marked marks l || eqb l i)
unfolding is_marked
mark-more marks i l h = by (eqb l i) refl
  where
    by : (t : Bool) → eqb l i ≡ t → eqb (get_or (set marks i 1) l 0) 1 ≡ (eqb (get_or marks l 0) 1 || t)
    by true e = rw (eqb-true l i e, get_or-set_same marks i 1 0 h) (sym (or-true (eqb (get_or marks i 0) 1)))
    by false e = rw (get_or-set_other marks i l 1 0 (eqb-false l i e)) (sym (or-false (eqb (get_or marks l 0) 1)))

pub marked_more : (chosen : List ℕ) {marks : List ℕ} (k : ℕ) → Marked (map ℓ (take k chosen)) marks → k < length chosen → get_or chosen k 0 < most_rows
    → Marked (map ℓ (take (k + 1) chosen)) (set marks (get_or chosen k 0) 1)
marked_more chosen {marks} k m h below = record {
  size = length-set marks (get_or chosen k 0) 1 ∙ m.size;
  marks_are = λ l g.
      let i = get_or chosen k 0 in
      mark-more marks i l (rw m.size below) ∙ rw (m.marks_are l g, add-one k, take-suc chosen k 0 h, map-append, any_append, or-false (eqb l i));
}

-- the bytes are 0 and 1
pub bits_none : AllBelow 2 (replicate most_rows 0)
bits_none l h =
    let size = length-replicate {A = ℕ} most_rows 0 in
    let e = get_or-replicate {A = ℕ} most_rows l 0 0 (omega arith) in
    omega arith

pub bits-more : (marks : List ℕ) (i : ℕ) → AllBelow 2 marks → AllBelow 2 (set marks i 1)
bits-more marks i bits l h = by (eqb l i) refl
  where
    by : (t : Bool) → eqb l i ≡ t → get_or (set marks i 1) l 0 < 2
    by true e =
        let same = eqb-true l i e in
        let size = length-set marks i 1 in
        let q = get_or-set_same marks i 1 0 (omega arith) in
        rw same (omega arith)
    by false e =
        let size = length-set marks i 1 in
        let q = get_or-set_other marks i l 1 0 (eqb-false l i e) in
        let b = bits l (omega arith) in
        omega arith
