-- What holds of each label of a formula holds at its leaves.
use mathlib.Core.Path.{refl}
use mathlib.Core.List.Memᴰ
use mathlib.Core.List.{Memᴰ}
use Rattle.paper.specs.declared.Label.{Label}
use Rattle.paper.specs.Formula.{labels, labels_of, Formula, Formulas, FALSE, test, candidate, conjunction, disjunction, exists, IF, only, ◌⨾◌}
use Rattle.paper.proofs.Folds.{AtLeaves, AtLeavesOf}

module _ (P : Label → Type 0) where
  mutual
    pub leaves-labelled : (f : Formula) → ((l : Label) → Memᴰ l (labels f) → P l) → AtLeaves P P (λ l v. P l) f
    leaves-labelled (FALSE l) each = each l (Memᴰ.head refl)
    leaves-labelled (test s) each = each s.label (Memᴰ.head refl)
    leaves-labelled (candidate l v s) each = each l (Memᴰ.head refl)
    leaves-labelled (conjunction l fs) each = leaves-labelled-of fs (λ i h. each i (Memᴰ.tail h))
    leaves-labelled (disjunction l fs) each = leaves-labelled-of fs (λ i h. each i (Memᴰ.tail h))
    leaves-labelled (exists l s f) each = leaves-labelled f (λ i h. each i (Memᴰ.tail (Memᴰ.tail h)))
    leaves-labelled (IF l s f g) each = (
      leaves-labelled f (λ i h. each i (Memᴰ.tail (Memᴰ.tail (Memᴰ.append_left (labels g) h)))),
      leaves-labelled g (λ i h. each i (Memᴰ.tail (Memᴰ.tail (Memᴰ.append_right (labels f) h)))),
    )

    leaves-labelled-of : (fs : Formulas) → ((l : Label) → Memᴰ l (labels_of fs) → P l) → AtLeavesOf P P (λ l v. P l) fs
    leaves-labelled-of (only f) each = leaves-labelled f each
    leaves-labelled-of (f ⨾ fs) each =
        (leaves-labelled f (λ i h. each i (Memᴰ.append_left (labels_of fs) h)), leaves-labelled-of fs (λ i h. each i (Memᴰ.append_right (labels f) h)))
