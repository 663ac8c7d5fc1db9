-- A slice (Table 4) goes by the formula's own labels only: two sets that agree on them slice it alike.
use mathlib.Core.Path.{◌≡◌, refl, ap, ap₂}
use mathlib.Core.Bool.{Bool, cond}
use mathlib.Core.List.Memᴰ
use mathlib.Core.List.{List, Memᴰ}
use Rattle.paper.specs.declared.Label.{Label}
use Rattle.paper.specs.Formula.{labels, labels_of, Formula, Formulas, FALSE, test, candidate, conjunction, disjunction, exists, IF, only, ◌⨾◌}
use Rattle.paper.specs.Transition.{slice_by, slices_by}

module _ (S T : Label → Bool) where
  abbrev Alike : List Label → Type 0
  Alike ls = (i : Label) → Memᴰ i ls → S i ≡ T i

  mutual
    pub slice-alike : (f : Formula) → Alike (labels f) → slice_by S f ≡ slice_by T f
    slice-alike (FALSE l) h = refl
    slice-alike (test s) h = ap (λ t. cond t (test s) (FALSE s.label)) (h s.label (Memᴰ.head refl))
    slice-alike (candidate l v s) h = ap (λ t. cond t (candidate l v s) (FALSE l)) (h l (Memᴰ.head refl))
    slice-alike (conjunction l fs) h = ap (conjunction l) (slices-alike fs (λ i t. h i (Memᴰ.tail t)))
    slice-alike (disjunction l fs) h = ap (disjunction l) (slices-alike fs (λ i t. h i (Memᴰ.tail t)))
    slice-alike (exists l s f) h = ap (exists l s) (slice-alike f (λ i t. h i (Memᴰ.tail (Memᴰ.tail t))))
    slice-alike (IF l s f g) h =
        ap₂ (IF l s) (slice-alike f (λ i t. h i (Memᴰ.tail (Memᴰ.tail (Memᴰ.append_left (labels g) t)))))
        (slice-alike g (λ i t. h i (Memᴰ.tail (Memᴰ.tail (Memᴰ.append_right (labels f) t)))))

    slices-alike : (fs : Formulas) → Alike (labels_of fs) → slices_by S fs ≡ slices_by T fs
    slices-alike (only f) h = ap only (slice-alike f h)
    slices-alike (f ⨾ fs) h =
        ap₂ ◌⨾◌ (slice-alike f (λ i t. h i (Memᴰ.append_left (labels_of fs) t)))
        (slices-alike fs (λ i t. h i (Memᴰ.append_right (labels f) t)))
