-- What holds at the leaves of a formula holds at the labels that a key keeps: they are labels of leaves. So they lie below #N, and
-- the bytes beyond the first #N stay.
use Prim.Native.Nat.{ℕ, ◌-◌, ◌/◌, ◌%◌, ◌<◌}
use mathlib.Core.Path.{◌≡◌, ap, ◌∙◌}
use mathlib.Core.Bool.{Bool, true, false, cond}
use mathlib.Core.List.{List, ◌++◌}
use lib.Dec.{eqb, ltb}
use lib.ListN.{drop, replicate, length-replicate}
use Rattle.paper.specs.Limits.{most_depth}
use Rattle.paper.specs.declared.Label.{Label}
use Rattle.paper.specs.Formula.{Formula, Formulas, FALSE, test, candidate, conjunction, disjunction, exists, IF, only, ◌⨾◌}
use Rattle.paper.specs.Inside.Structure.KeyCount.{key_count_of, number_of, number_of_each}
use Rattle.paper.specs.Inside.Structure.Kept.{kept_at, kept_each, kept_any, kept_all}
use Rattle.paper.proofs.Folds.{AtLeaves, AtLeavesOf}
use Rattle.rows.specs.Formula.{formula_at}
use Rattle.rows.specs.Inside.Walk.{Shaped}
use Rattle.keys.specs.declared.Distinct.{Distinct}
use Rattle.keys.proofs.LeafLabels.{leaves-hold}
use Rattle.transitions.specs.Inside.Kept.{marked_by, Keepable, KeptAfter, MarkedKept}
use Rattle.transitions.proofs.MarkedBytes.{AllLabels, no_label, ◌and◌, marked-bytes, marked-front}

module _ (P : Label → Type 0) where
  all_append : {xs ys : List Label} → AllLabels P xs → AllLabels P ys → AllLabels P (xs ++ ys)
  all_append no_label b = b
  all_append (h and a) b = h and all_append a b

  all_either : (t : Bool) {xs ys : List Label} → AllLabels P xs → AllLabels P ys → AllLabels P (cond t xs ys)
  all_either true a b = a
  all_either false a b = b

  module _ (A : List Label) where
    abbrev Leaves : Formula → Type 0
    Leaves = AtLeaves P P (λ l v. P l)

    abbrev LeavesOf : Formulas → Type 0
    LeavesOf = AtLeavesOf P P (λ l v. P l)

    -- what its first key keeps, where it has one
    first-kept : (f : Formula) → AllLabels P (kept_at A f 0) → AllLabels P (kept_all A (only f))
    first-kept f a = all_either (eqb (number_of A f) 0) no_label a

    mutual
      pub all-kept : (f : Formula) (k : ℕ) → Leaves f → AllLabels P (kept_at A f k)
      all-kept (FALSE l) k h = h and no_label
      all-kept (test s) k h = h and no_label
      all-kept (candidate l v s) k h = h and no_label
      all-kept (conjunction l fs) k h = each-kept fs k h
      all-kept (disjunction l fs) k h = all_either (key_count_of A (disjunction l fs)).empty (every-kept fs h) (any-kept fs k h)
      all-kept (exists l s f) k h = all-kept f k h
      all-kept (IF l s f g) k h = all_either (key_count_of A (IF l s f g)).empty
          (all_append (first-kept f (all-kept f 0 h.0)) (first-kept g (all-kept g 0 h.1)))
          (all_either (ltb k (number_of A f)) (all-kept f k h.0) (all-kept g (k - number_of A f) h.1))

      each-kept : (fs : Formulas) (k : ℕ) → LeavesOf fs → AllLabels P (kept_each A fs k)
      each-kept (only f) k h = all-kept f k h
      each-kept (f ⨾ fs) k h = all_append (all-kept f (k / number_of_each A fs) h.0) (each-kept fs (k % number_of_each A fs) h.1)

      any-kept : (fs : Formulas) (k : ℕ) → LeavesOf fs → AllLabels P (kept_any A fs k)
      any-kept (only f) k h = all-kept f k h
      any-kept (f ⨾ fs) k h = all_either (ltb k (number_of A f)) (all-kept f k h.0) (any-kept fs (k - number_of A f) h.1)

      every-kept : (fs : Formulas) → LeavesOf fs → AllLabels P (kept_all A fs)
      every-kept (only f) h = first-kept f (all-kept f 0 h)
      every-kept (f ⨾ fs) h = all_append (first-kept f (all-kept f 0 h.0)) (every-kept fs h.1)

-- cleared bytes, with those of the kept labels set
pub kept-marked : {rows marks out cleared after : List ℕ} {#N k : ℕ} {own : Distinct} → Shaped rows #N
    → Keepable rows marks out #N 0 most_depth own k → cleared ≡ replicate #N 0 ++ drop #N out
    → KeptAfter rows marks most_depth 0 k cleared after → MarkedKept rows marks #N k out after
kept-marked {rows} {marks} {out} {after = after} {#N} {k} s p c q = record {
  bytes_are = λ A marked reads.
      let f = formula_at rows reads most_depth 0 in
      let below = all-kept (λ l. l.0 < #N) A f k (leaves-hold rows reads (λ l. l.0 < #N) (λ l h. h) most_depth 0 (record { shaped = s; here = p.here })) in
      q.bytes_are A marked reads ∙ ap (marked_by (kept_at A f k)) c
      ∙ marked-front (kept_at A f k) #N (replicate #N 0) (drop #N out) (length-replicate #N 0) below
      ∙ ap (λ xs. xs ++ drop #N out) (marked-bytes (kept_at A f k) #N);
}
