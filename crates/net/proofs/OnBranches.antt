-- Which labels some branch of a formula that rows write can hold: none at all is held by each, a candidate of its own by some, and
-- one of another formula's by none.
use Prim.Native.Nat.{ℕ, ◌+◌, ◌<◌, ◌≤◌}
use native.Mathlib.Omega.{arith}
use mathlib.Core.Path.{◌≡◌, refl, ◌∙◌}
use mathlib.Core.Bool.{true, false, or-true}
use mathlib.Core.List.{List, [], ◌∷◌, ◌++◌, Memᴰ, Sublistᴰ}
use lib.ListN.{length}
use borrow.Author.Tests.{eq-eqb}
use Rattle.paper.specs.declared.Label.{Label}
use Rattle.paper.specs.Lists.{any_of}
use Rattle.paper.specs.Formula.{ℓ, has, labels, labels_of, Formula, Formulas, FALSE, test, candidate, conjunction, disjunction, exists, IF, only, ◌⨾◌}
use Rattle.paper.specs.Branch.{branches, of_each, of_any}
use Rattle.paper.specs.Inside.Structure.Share.{holds_all, some_branch_holds, each_holds, any_holds}
use Rattle.paper.proofs.Bools.{not_so, pick}
use Rattle.paper.proofs.Lists.{to-any, of-any, of-all}
use Rattle.paper.proofs.Labels.{sub-has, branch-sub, each-sub, any-sub}
use Rattle.paper.proofs.Share.{some_holds}
use Rattle.paper.proofs.Numbers.{a-branch}
use Rattle.written.specs.Written.{size, labels_on}
use Rattle.written.proofs.Writes.{Writes, WritesAll}
use Rattle.net.proofs.Spans.{labels-between, labels-count, labels-count-all, Among, past_row, past-star, no-candidate, own_row, either-part}

-- every formula has a branch, which holds all of no labels
pub some-nothing : (f : Formula) → some_branch_holds f [] ≡ true
some-nothing f = some_holds f [] ∙ to-any (λ b. holds_all b []) (a-branch f).1 refl

pub each-nothing : (fs : Formulas) → each_holds fs [] ≡ true
each-nothing fs = some-nothing (conjunction (ℓ 0) fs)

-- no branch holds a label that is none of the formula's
lacking : (bs : List (List Label)) (ls S : List Label) (x i : ℕ) → ((b : List Label) → Memᴰ b bs → Sublistᴰ b ls) → ls ≡ labels_on i (length ls)
    → (i ≤ x → x < i + length ls → ⊥) → Memᴰ (ℓ x) S → any_of (λ b. holds_all b S) bs ≡ false
lacking bs ls S x i part count outside m = not_so _ λ h.
    let (b, t, k) = of-any (λ b. holds_all b S) bs h in
    let (c, d) = labels-between i (length ls) (ℓ x) (rw count at (sub-has (ℓ x) (part b t) (of-all (has b) k m))) in
    outside c d

module _ (rows reads : List ℕ) where
  module _ (S : List Label) (x : ℕ) (m : Memᴰ (ℓ x) S) where
    pub some-lacks : (f : Formula) (i t : ℕ) → Writes rows reads f i t → i + size f ≤ x → some_branch_holds f S ≡ false
    some-lacks f i t w h = some_holds f S ∙ lacking (branches f) (labels f) S x i (branch-sub f) (labels-count rows reads f i t w) (λ c d. omega arith) m

    pub each-lacks : (fs : Formulas) (i t : ℕ) → WritesAll rows reads fs i t → x < i → each_holds fs S ≡ false
    each-lacks fs i t w h =
        some_holds (conjunction (ℓ 0) fs) S
        ∙ lacking (of_each fs) (labels_of fs) S x i (each-sub fs) (labels-count-all rows reads fs i t w) (λ c d. omega arith) m

    pub any-lacks : (fs : Formulas) (i t : ℕ) → WritesAll rows reads fs i t → x < i → any_holds fs S ≡ false
    any-lacks fs i t w h =
        some_holds (disjunction (ℓ 0) fs) S
        ∙ lacking (of_any fs) (labels_of fs) S x i (any-sub fs) (labels-count-all rows reads fs i t w) (λ c d. omega arith) m

  -- a candidate is on some branch
  abbrev pub Held : ℕ → Formulas → Type 0
  Held x fs = (each_holds fs (ℓ x ∷ []) ≡ true) × (any_holds fs (ℓ x ∷ []) ≡ true)

  either_held : {x i : ℕ} (f : Formula) (fs : Formulas) → Among rows x i (length (labels f ++ labels_of fs))
      → (Among rows x i (size f) → some_branch_holds f (ℓ x ∷ []) ≡ true) → (Among rows x (i + size f) (length (labels_of fs)) → Held x fs) → Held x (f ⨾ fs)
  either_held f fs c first rest =
      pick (either-part (labels f) (labels_of fs) c) (λ d. let e = first d in (simp (e, each-nothing fs), simp e))
      (λ d. let (e, o) = rest d in (simp (some-nothing f, e, or-true), simp (o, or-true)))

  mutual
    pub candidate-held : (f : Formula) {x : ℕ} (i t : ℕ) → Writes rows reads f i t → Among rows x i (size f) → some_branch_holds f (ℓ x ∷ []) ≡ true
    candidate-held (FALSE l) i t w c = absurd (no-candidate w.1 refl c)
    candidate-held (test s) i t w c = absurd (no-candidate w.row_is refl c)
    candidate-held (candidate l v s) i t w c = rw (own_row w.2 c, w.0) (simp (eq-eqb i i refl))
    candidate-held (conjunction l fs) i t w c = (candidates-held fs (i + 1) t w.2 (past_row w.1 refl c)).0
    candidate-held (disjunction l fs) i t w c = (candidates-held fs (i + 1) t w.2 (past_row w.1 refl c)).1
    candidate-held (exists l s f) i t w c = candidate-held f (i + 2) _ w.3 (past-star w.1 w.2 refl c)
    candidate-held (IF l s f g) i t w c =
        (either_held f (only g) (past-star w.1 w.2 refl c) (λ d. candidate-held f (i + 2) _ w.3 d)
        (λ d. let h = candidate-held g (i + 2 + size f) _ w.4 d in (h, h))).1

    pub candidates-held : (fs : Formulas) {x : ℕ} (i t : ℕ) → WritesAll rows reads fs i t → Among rows x i (length (labels_of fs)) → Held x fs
    candidates-held (only f) i t w c = let h = candidate-held f i t w c in (h, h)
    candidates-held (f ⨾ fs) i t w c = either_held f fs c (λ d. candidate-held f i t w.0 d) (λ d. candidates-held fs (i + size f) _ w.1 d)
